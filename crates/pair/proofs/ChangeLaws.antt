-- The test of class numbers says what the data type of permitted changes says. Assumes nothing.
use Prim.Native.Nat.{ℕ, zero, suc, ◌≤◌}
use mathlib.Core.Path.{◌≡◌, refl, sym, ap}
use mathlib.Core.Bool.{Bool, true, false, false≢true, ◌||◌, cond}
use mathlib.Core.Logic.{◌⊎◌, inl, inr, ⊎_elim}
use native.Mathlib.Omega.{arith}
use lib.Dec.{eqb}
use borrow.Author.Tests.{eqb-true, eq-eqb}
use Rattle.lists.proofs.BoolLaws.{or_cases}
use Rattle.image.specs.Limits.{last_class}
use Rattle.image.specs.Class.{Class, class_number, class_named}
use Rattle.image.specs.Permitted.{
  Permitted,
  same,
  unassigned_start,
  unassigned_nonstart,
  unassigned_other,
  other_start,
  other_nonstart,
  nonstart_start,
}
use Rattle.pair.specs.Change.{is_continue_class, permitted}

abbrev Named : ℕ → ℕ → Type 0
Named a b = Permitted (class_named a) (class_named b)

pick_cases : (t a b : Bool) → cond t a b ≡ true → ((t ≡ true) × (a ≡ true)) ⊎ (b ≡ true)
pick_cases true a b e = inl (refl, e)
pick_cases false a b e = inr e

continue_cases : (b : ℕ) → is_continue_class b ≡ true → (b ≡ 1) ⊎ (b ≡ 2)
unfolding is_continue_class
continue_cases b e = ⊎_elim (λ h. inl (eqb-true _ _ h)) (λ h. inr (eqb-true _ _ h)) (or_cases (eqb b 1) (eqb b 2) e)

module _ (a b : ℕ) where
  from_nonstart : cond (eqb a 2) (eqb b 1) false ≡ true → Named a b
  from_nonstart e = elim (pick_cases (eqb a 2) (eqb b 1) false e) [
    | inl h ↦ rw (eqb-true a 2 h.0, eqb-true b 1 h.1) nonstart_start
    | inr h ↦ absurd (false≢true h)
  ]

  from_other : a ≡ 5 → (b ≡ 1) ⊎ (b ≡ 2) → Named a b
  from_other p (inl h) = rw (p, h) other_start
  from_other p (inr h) = rw (p, h) other_nonstart

  from_unassigned : a ≡ 0 → ((b ≡ 1) ⊎ (b ≡ 2)) ⊎ (b ≡ 5) → Named a b
  from_unassigned p (inl (inl h)) = rw (p, h) unassigned_start
  from_unassigned p (inl (inr h)) = rw (p, h) unassigned_nonstart
  from_unassigned p (inr h) = rw (p, h) unassigned_other

  -- the test holds only of permitted changes
  pub permitted_is : permitted a b ≡ true → Permitted (class_named a) (class_named b)
  unfolding permitted
  permitted_is e = elim (pick_cases (eqb b a) true _ e) [
    | inl h ↦ same (ap class_named (sym (eqb-true b a h.0)))
    | inr h ↦ elim (pick_cases (eqb a 0) (is_continue_class b || eqb b 5) _ h) [
      | inl i ↦ from_unassigned (eqb-true a 0 i.0)
          (⊎_elim (λ k. inl (continue_cases b k)) (λ k. inr (eqb-true b 5 k)) (or_cases (is_continue_class b) (eqb b 5) i.1))
      | inr i ↦ elim (pick_cases (eqb a 5) (is_continue_class b) _ i) [
        | inl j ↦ from_other (eqb-true a 5 j.0) (continue_cases b j.1)
        | inr j ↦ from_nonstart j
      ]
    ]
  ]

numbered : (a b : Class) → Permitted a b → permitted (class_number a) (class_number b) ≡ true
unfolding permitted is_continue_class
numbered a b (same p) = simp (eq-eqb _ _ (ap class_number (sym p)))
numbered _ _ unassigned_start = refl
numbered _ _ unassigned_nonstart = refl
numbered _ _ unassigned_other = refl
numbered _ _ other_start = refl
numbered _ _ other_nonstart = refl
numbered _ _ nonstart_start = refl

-- a class number is that of its class
pub number_named : (a : ℕ) → a ≤ last_class → class_number (class_named a) ≡ a
number_named zero h = refl
number_named (suc zero) h = refl
number_named (suc (suc zero)) h = refl
number_named (suc (suc (suc zero))) h = refl
number_named (suc (suc (suc (suc zero)))) h = refl
number_named (suc (suc (suc (suc (suc zero))))) h = refl
number_named (suc (suc (suc (suc (suc (suc n)))))) h = absurd (omega arith)

-- .. and of all of them
pub is_permitted : (a b : ℕ) → a ≤ last_class → b ≤ last_class → Permitted (class_named a) (class_named b) → permitted a b ≡ true
is_permitted a b ha hb p = rw (← number_named a ha, ← number_named b hb) (numbered (class_named a) (class_named b) p)
