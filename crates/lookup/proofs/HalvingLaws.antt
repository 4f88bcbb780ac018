-- The halving search: one step of it, and how many steps there are. Assumes nothing.
use Prim.Native.Nat.{ℕ, zero, suc, ◌+◌, ◌-◌, ◌/◌, ◌^◌, ◌≤◌, ◌<◌}
use mathlib.Core.Path.{◌≡◌, refl, sym, ap, ◌∙◌}
use mathlib.Core.Bool.{Bool, true, false, cond}
use native.Mathlib.Nat.{pow-suc}
use native.Mathlib.Omega.{arith}
use lib.Dec.{leb, ltb}
use borrow.Author.Tests.{le-leb, lt-leb, lt-ltb, le-ltb, leb-false}
use Rattle.image.specs.Limits.{max_ranges, max_entries}
use Rattle.image.specs.Ranges.{holds}
use Rattle.image.specs.declared.Range.{Range}
use Rattle.lookup.specs.declared.Probe.{Probe}
use Rattle.lookup.specs.Halving.{nothing, more, look, seek_in, seek_of}

pick_same : (t : Bool) (a x y : Probe) → (t ≡ false → x ≡ y) → cond t a x ≡ cond t a y
pick_same true a x y f = refl
pick_same false a x y f = f refl

pick_count : (t : Bool) (x y : Probe) (j : ℕ) → x.count ≤ j → (t ≡ false → y.count ≤ j) → (cond t x y).count ≤ j
pick_count true x y j f g = f
pick_count false x y j f g = g refl

module _ (at : ℕ → Range) (x : ℕ) where
  -- two searches that agree on both halves agree
  look_same : (f g : ℕ → ℕ → Probe) (lo hi m : ℕ) → f lo m ≡ g lo m → f (m + 1) hi ≡ g (m + 1) hi → look f at x lo hi m ≡ look g at x lo hi m
  look_same f g lo hi m p q =
      λ d. cond (holds (at m) x) (record { class = (at m).class; count = 1 }) (cond (ltb x (at m).first) (more (p d)) (more (q d)))

  empty : (k lo hi : ℕ) → hi ≤ lo → seek_in k at lo hi x ≡ nothing
  empty zero lo hi h = refl
  empty (suc k) lo hi h = simp (le-leb hi lo h)

  -- more steps than ranges change nothing
  enough : (k j lo hi : ℕ) → hi - lo ≤ k → hi - lo ≤ j → seek_in k at lo hi x ≡ seek_in j at lo hi x
  enough zero j lo hi h i = sym (empty j lo hi (omega arith))
  enough (suc k) zero lo hi h i = empty (suc k) lo hi (omega arith)
  enough (suc k) (suc j) lo hi h i =
      let m = (lo + hi) / 2 in
      pick_same (leb hi lo) nothing _ _
      (λ e.
      let l : lo < hi = leb-false hi lo e in
      let below = enough k j lo m (omega arith) (omega arith) in
      let above = enough k j (m + 1) hi (omega arith) (omega arith) in
      look_same (λ a b. seek_in k at a b x) (λ a b. seek_in j at a b x) lo hi m below above)

  pub seek_none : (lo hi : ℕ) → hi ≤ lo → seek_of at lo hi x ≡ nothing
  unfolding seek_of
  seek_none lo hi h = empty (hi - lo) lo hi h

  -- the search where something is left: a step, and the same search on the half that remains
  pub seek_step : (lo hi : ℕ) → lo < hi → seek_of at lo hi x ≡ look (λ a b. seek_of at a b x) at x lo hi ((lo + hi) / 2)
  unfolding seek_of
  seek_step lo hi h =
      let k = hi - lo in
      let m = (lo + hi) / 2 in
      let below = enough k (m - lo) lo m (omega arith) (omega arith) in
      let above = enough k (hi - (m + 1)) (m + 1) hi (omega arith) (omega arith) in
      enough k (suc k) lo hi (omega arith) (omega arith)
      ∙ ap (λ (t : Bool). cond t nothing (look (λ a b. seek_in k at a b x) at x lo hi m)) (lt-leb hi lo h)
      ∙ look_same (λ a b. seek_in k at a b x) (λ a b. seek_in (b - a) at a b x) lo hi m below above

  -- one step, by the range r that it looks at and the search p in the half that remains
  module _ (lo hi : ℕ) (r : Range) (is : r ≡ at ((lo + hi) / 2)) (some : lo < hi) where
    pub seek_low : (p : Probe) → p ≡ seek_of at lo ((lo + hi) / 2) x → x < r.first → more p ≡ seek_of at lo hi x
    seek_low p e a = let b = rw is at a in ap more e ∙ sym (seek_step lo hi some ∙ simp (lt-leb _ _ b, lt-ltb _ _ b))

    pub seek_high : (p : Probe) → p ≡ seek_of at ((lo + hi) / 2 + 1) hi x → r.first ≤ x → r.last < x → more p ≡ seek_of at lo hi x
    seek_high p e a b =
        let c = rw is at a in
        let d = rw is at b in
        ap more e ∙ sym (seek_step lo hi some ∙ simp (le-leb _ _ c, lt-leb _ _ d, le-ltb _ _ c))

    pub seek_here : r.first ≤ x → x ≤ r.last → record { class = r.class; count = 1 } ≡ seek_of at lo hi x
    seek_here a b =
        let c = rw is at a in
        let d = rw is at b in
        rw is (sym (seek_step lo hi some ∙ simp (le-leb _ _ c, le-leb _ _ d)))

  steps : (k j lo hi : ℕ) → hi - lo < 2 ^ j → (seek_in k at lo hi x).count ≤ j
  steps zero j lo hi h = omega arith
  steps (suc k) zero lo hi h = let e = ap (λ (p : Probe). p.count) (empty (suc k) lo hi (omega arith)) in omega arith
  steps (suc k) (suc j) lo hi h =
      let m = (lo + hi) / 2 in
      let p = pow-suc 2 j in
      pick_count (leb hi lo) nothing _ (suc j) (omega arith)
      (λ e. let l : lo < hi = leb-false hi lo e in
      let below = steps k j lo m (omega arith) in
      let above = steps k j (m + 1) hi (omega arith) in
      pick_count (holds (at m) x) _ _ (suc j) (omega arith) (λ _. pick_count (ltb x (at m).first) _ _ (suc j) (omega arith) (λ _. omega arith)))

  -- at most j steps in fewer than 2 ^ j ranges
  pub seek_count : (j lo hi : ℕ) → hi - lo < 2 ^ j → (seek_of at lo hi x).count ≤ j
  unfolding seek_of
  seek_count j lo hi h = steps (hi - lo) j lo hi h

  -- a count of steps fits a number of 64 bits, with one more
  pub seek_fits : (lo hi : ℕ) (p : Probe) → p ≡ seek_of at lo hi x → hi < 2 ^ 64 → p.count ≤ 64
  seek_fits lo hi p e h = rw e (seek_count 64 lo hi (omega arith))

  -- at most 13 steps in at most 4,096 ranges
  pub seek_thirteen : (n : ℕ) → n ≤ max_ranges → (seek_of at 0 n x).count ≤ 13
  seek_thirteen n h = seek_count 13 0 n (omega arith)

  -- at most 10 steps in at most 512 profile entries
  pub seek_ten : (m : ℕ) → m ≤ max_entries → (seek_of at 0 m x).count ≤ 10
  seek_ten m h = seek_count 10 0 m (omega arith)
