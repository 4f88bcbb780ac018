-- Ranges that rise: at most one holds a number, and its class is the number's.
-- Good ranges rise, and so do profile entries (`SectionLaws.antt`). Assumes nothing.
use Prim.Native.Nat.{ℕ, zero, suc, ◌-◌, ◌≤◌, ◌<◌}
use mathlib.Core.Path.{◌≡◌, refl, sym, ◌∙◌}
use mathlib.Core.Bool.{Bool, true, false, true≢false}
use native.Mathlib.Omega.{arith}
use native.Mathlib.Decide.{dec_lt}
use lib.Dec.{leb}
use borrow.Author.Tests.{le-leb, lt-ltb, le-ltb, leb-true}
use Rattle.lists.specs.First.{first_where}
use Rattle.lists.proofs.BoolLaws.{and_left, and_right, and_in}
use Rattle.lists.proofs.FirstLaws.{first_is, first_none, first_holds, first_passed}
use Rattle.image.specs.Ranges.{holds, class_in}
use Rattle.image.specs.declared.Range.{Range}
use Rattle.image.specs.Placed.{Rising}
use Rattle.image.specs.Records as Records
use Rattle.image.specs.Records.{HasClass, in_none}

-- what it is that a range holds x, or doesn't
held : (r : Range) (x : ℕ) → r.first ≤ x → x ≤ r.last → holds r x ≡ true
held r x a b = and_in _ _ (le-leb _ _ a) (le-leb _ _ b)

held_from : (r : Range) (x : ℕ) → holds r x ≡ true → r.first ≤ x
held_from r x e = leb-true _ _ (and_left _ _ e)

held_to : (r : Range) (x : ℕ) → holds r x ≡ true → x ≤ r.last
held_to r x e = leb-true _ _ (and_right (leb r.first x) _ e)

not_held : (r : Range) (x : ℕ) → (r.first ≤ x → x ≤ r.last → ⊥) → holds r x ≡ false
not_held r x f = go (holds r x) refl
  where
    go : (b : Bool) → holds r x ≡ b → b ≡ false
    go true e = absurd (f (held_from r x e) (held_to r x e))
    go false e = refl

module _ (at : ℕ → Range) (n : ℕ) where
  -- where no range holds x its class is 0
  pub class_none : (x : ℕ) → ((i : ℕ) → i < n → (at i).first ≤ x → x ≤ (at i).last → ⊥) → class_in at n x ≡ 0
  unfolding class_in
  class_none x f = rw (first_none (λ (i : ℕ). holds (at i) x) n (λ i l. not_held (at i) x (f i l))) (simp (le-ltb n n (omega arith)))

  cases_by : (x i : ℕ) → first_where (λ (i : ℕ). holds (at i) x) n ≡ i → Dec (i < n) → HasClass at n x (class_in at n x)
  unfolding class_in
  cases_by x i e (yes l) =
      let h : holds (at i) x ≡ true = rw e at (first_holds (λ (i : ℕ). holds (at i) x) n (omega arith)) in
      rw e (simp (lt-ltb _ _ l) (Records.held i l (held_from (at i) x h) (held_to (at i) x h)))
  cases_by x i e (no l) =
      rw e (simp (le-ltb i n (omega arith)) (in_none (λ j k a b. true≢false (sym (held (at j) x a b) ∙ first_passed (λ (i : ℕ). holds (at i) x) n j (omega arith)))))

  -- the class of x is one
  pub class_cases : (x : ℕ) → HasClass at n x (class_in at n x)
  class_cases x = cases_by x _ refl (dec_lt _ n)

module _ (at : ℕ → Range) (n : ℕ) (up : Rising at n) where
  pub rise : (i j : ℕ) → i < j → j < n → (at i).last < (at j).first
  rise i zero h l = absurd (omega arith)
  rise i (suc j) h l =
      let next : (at j).last < (at (suc j)).first = (let z : suc j - 1 ≡ j = omega arith in rw z at (up.after (suc j) (omega arith) l)) in
      let own = up.ordered j (omega arith) in
      go (dec_lt i j) (rise i j) next own
    where
      go : Dec (i < j) → (i < j → j < n → (at i).last < (at j).first) → (at j).last < (at (suc j)).first → (at j).first ≤ (at j).last → (at i).last < (at (suc j)).first
      go (yes p) f next own = let q = f p (omega arith) in omega arith
      go (no p) f next own = let z : i ≡ j = omega arith in rw z next

  -- at most one range holds x
  pub one_holds : (i j x : ℕ) → i < n → j < n → (at i).first ≤ x → x ≤ (at i).last → (at j).first ≤ x → x ≤ (at j).last → i ≡ j
  one_holds i j x l k a b c d = go (dec_lt i j) (dec_lt j i)
    where
      go : Dec (i < j) → Dec (j < i) → i ≡ j
      go (yes p) q = let r = rise i j p k in absurd (omega arith)
      go (no p) (yes q) = let r = rise j i q l in absurd (omega arith)
      go (no p) (no q) = omega arith

  -- every x within range i has its class
  pub class_held : (i x : ℕ) → i < n → (at i).first ≤ x → x ≤ (at i).last → class_in at n x ≡ (at i).class
  unfolding class_in
  class_held i x l a b =
      rw (first_is (λ (i : ℕ). holds (at i) x) n i l (held (at i) x a b)
      (λ j k. not_held (at j) x (λ c d. let r = rise j i k l in absurd (omega arith)))) (simp (lt-ltb i n l))

  pub class_of_lem : (x c : ℕ) → HasClass at n x c → class_in at n x ≡ c
  class_of_lem x c (Records.held i l a b) = class_held i x l a b
  class_of_lem x c (in_none f) = class_none at n x f

  -- between neighbours the class is 0: the range before i ends before x, and range i begins after it
  pub class_gap : (i x : ℕ) → i ≤ n → (0 < i → (at (i - 1)).last < x) → (i < n → x < (at i).first) → class_in at n x ≡ 0
  class_gap i x k p q = class_none at n x (λ j l a b. go j l a b (dec_lt j i) (dec_lt j (i - 1)) (dec_lt i j))
    where
      go : (j : ℕ) → j < n → (at j).first ≤ x → x ≤ (at j).last → Dec (j < i) → Dec (j < i - 1) → Dec (i < j) → ⊥
      go j l a b (yes s) (yes t) d = let r = rise j (i - 1) t (omega arith) in let o = up.ordered (i - 1) (omega arith) in let w = p (omega arith) in omega arith
      go j l a b (yes s) (no t) d = let z : j ≡ i - 1 = omega arith in let w = p (omega arith) in omega (arith, rw z at b)
      go j l a b (no s) e (yes t) = let r = rise i j t l in let o = up.ordered i (omega arith) in let w = q (omega arith) in omega arith
      go j l a b (no s) e (no t) = let z : j ≡ i = omega arith in let w = q (omega arith) in omega (arith, rw z at a)
