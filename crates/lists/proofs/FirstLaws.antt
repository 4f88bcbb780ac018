-- The first index at which a test holds: one index at a time, for loops, and what it is, for callers. Assumes nothing.
use Prim.Native.Nat.{ℕ, zero, suc, ◌+◌, ◌-◌, ◌≤◌, ◌<◌}
use mathlib.Core.Path.{◌≡◌, refl, sym, ap, ◌∙◌}
use mathlib.Core.Bool.{Bool, true, false, not, true≢false, cond}
use native.Mathlib.Numerals.{add-one}
use native.Mathlib.Omega.{arith}
use native.Mathlib.Decide.{dec_lt}
use borrow.Author.Tests.{not-true, not-false}
use Rattle.lists.specs.First.{first_from, first_where, AllGood, FirstBad, Decides}

-- for loops: the search from index i on, with n - i indexes left
module _ (f : ℕ → Bool) (n i : ℕ) where
  cut : i < n → n - i ≡ suc (n - (i + 1))
  cut h = omega arith

  pub first_here : f i ≡ true → i < n → first_from f (n - i) i ≡ i
  unfolding first_from
  first_here e h = rw (cut h) (simp e)

  pub first_next : f i ≡ false → i < n → first_from f (n - i) i ≡ first_from f (n - (i + 1)) (i + 1)
  unfolding first_from
  first_next e h = ap (λ (k : ℕ). first_from f k i) (cut h) ∙ simp (e, add-one)

  pub first_end : n ≤ i → first_from f (n - i) i ≡ i
  unfolding first_from
  first_end h = ap (λ (k : ℕ). first_from f k i) (let z : n - i ≡ 0 = omega arith in z)

pub first_begins : (f : ℕ → Bool) (n : ℕ) → first_from f (n - 0) 0 ≡ first_where f n
unfolding first_where
first_begins f n = ap (λ (k : ℕ). first_from f k 0) (let z : n - 0 ≡ n = omega arith in z)

module _ (f : ℕ → Bool) where
  -- what the search from i on finds
  pub record Finds (k i j : ℕ) : Type 0 where
    pub from : i ≤ j
    pub to : j ≤ i + k
    pub passed : (x : ℕ) → i ≤ x → x < j → f x ≡ false
    pub found : j < i + k → f j ≡ true

  finds_step : (k i : ℕ) → Finds k (suc i) (first_from f k (suc i)) → (b : Bool) → f i ≡ b → Finds (suc k) i (cond b i (first_from f k (suc i)))
  finds_step k i h true e =
      record { from = omega arith; to = omega arith; passed = λ x l u. absurd (omega arith); found = λ l. e }
  finds_step k i h false e =
      record {
        from = omega arith;
        to = omega arith;
        passed = λ x l u. go x (dec_lt i x) l u;
        found = λ l. h.found (omega arith);
      }
    where
      go : (x : ℕ) → Dec (i < x) → i ≤ x → x < first_from f k (suc i) → f x ≡ false
      go x (yes p) l u = h.passed x p u
      go x (no p) l u = let q : i ≡ x = omega arith in rw (← q) e

  pub finds : (k i : ℕ) → Finds k i (first_from f k i)
  unfolding first_from
  finds zero i = record { from = omega arith; to = omega arith; passed = λ x l u. absurd (omega arith); found = λ l. absurd (omega arith) }
  finds (suc k) i = finds_step k i (finds k (suc i)) (f i) refl

  module _ (n : ℕ) where
    pub first_le : first_where f n ≤ n
    unfolding first_where
    first_le = omega (arith, (finds n 0).to)

    pub first_passed : (x : ℕ) → x < first_where f n → f x ≡ false
    unfolding first_where
    first_passed x u = (finds n 0).passed x (omega arith) u

    pub first_holds : first_where f n < n → f (first_where f n) ≡ true
    unfolding first_where
    first_holds l = (finds n 0).found (omega arith)

    -- the first index is known by what holds there and before
    pub first_is : (i : ℕ) → i < n → f i ≡ true → ((x : ℕ) → x < i → f x ≡ false) → first_where f n ≡ i
    first_is i l e p =
        let j = first_where f n in
        go (dec_lt j i) (dec_lt i j)
      where
        go : Dec (first_where f n < i) → Dec (i < first_where f n) → first_where f n ≡ i
        go (yes u) d = absurd (true≢false (sym (first_holds (omega arith)) ∙ p (first_where f n) u))
        go (no u) (yes v) = absurd (true≢false (sym e ∙ first_passed i v))
        go (no u) (no v) = omega arith

    pub first_none : ((x : ℕ) → x < n → f x ≡ false) → first_where f n ≡ n
    first_none p = go (dec_lt (first_where f n) n)
      where
        go : Dec (first_where f n < n) → first_where f n ≡ n
        go (yes l) = absurd (true≢false (sym (first_holds l) ∙ p (first_where f n) l))
        go (no l) = omega (arith, first_le)

-- equal tests find the same index
pub first_same : (f g : ℕ → Bool) (n : ℕ) → ((x : ℕ) → x < n → f x ≡ g x) → first_where f n ≡ first_where g n
first_same f g n e = go (dec_lt (first_where f n) n)
  where
    go : Dec (first_where f n < n) → first_where f n ≡ first_where g n
    go (yes l) =
        sym (first_is g n (first_where f n) l (sym (e (first_where f n) l) ∙ first_holds f n l)
        (λ x u. let v : x < n = omega arith in sym (e x v) ∙ first_passed f n x u))
    go (no l) =
        let q : first_where f n ≡ n = omega (arith, first_le f n) in
        q ∙ sym (first_none g n (λ x u. let v : x < first_where f n = omega arith in sym (e x u) ∙ first_passed f n x v))

-- the first index that isn't good, where a test tells which are
module _ (good : ℕ → Bool) (Good : ℕ → Type 0) (tells : Decides good Good) (n : ℕ) where
  abbrev bad : ℕ → Bool
  bad i = not (good i)

  pub first_bad : first_where bad n < n → FirstBad Good n (first_where bad n)
  first_bad l =
      record {
        within = l;
        bad = λ g. true≢false (sym (tells.from _ g) ∙ not-true _ (first_holds bad n l));
        before = λ i u. tells.to i (not-false _ (first_passed bad n i u));
      }

  pub all_good : n ≤ first_where bad n → AllGood Good n
  all_good l i u = tells.to i (not-false _ (first_passed bad n i (omega arith)))

  fails : (i : ℕ) → (Good i → ⊥) → (b : Bool) → good i ≡ b → not b ≡ true
  fails i f true e = absurd (f (tells.to i e))
  fails i f false e = refl

  pub first_is_bad : (i : ℕ) → FirstBad Good n i → first_where bad n ≡ i
  first_is_bad i h = first_is bad n i h.within (fails i h.bad _ refl) (λ x u. ap not (tells.from x (h.before x u)))

  pub first_is_none : AllGood Good n → first_where bad n ≡ n
  first_is_none h = first_none bad n (λ x u. ap not (tells.from x (h x u)))
