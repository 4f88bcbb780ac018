-- Laws of Boolean tests, and of what cannot be. Assumes nothing.
use Prim.Native.Nat.{ℕ}
use mathlib.Core.Path.{◌≡◌, refl}
use mathlib.Core.List.{List, [], ◌∷◌}
use mathlib.Core.Bool.{Bool, true, false, false≢true, true≢false, ◌&&◌, ◌||◌}
use mathlib.Core.Logic.{◌⊎◌, inl, inr}
use native.Mathlib.Omega.{arith}

-- anything follows where 0 is 1; `cc` proves that from two different constructors that are equal
pub impossible : {T : Type 0} → ◌≡◌ {A = ℕ} 0 1 → T
impossible e = absurd (omega arith)

pub and_left : (a b : Bool) → (a && b) ≡ true → a ≡ true
and_left true b e = refl
and_left false b e = e

pub and_right : (a b : Bool) → (a && b) ≡ true → b ≡ true
and_right true b e = e
and_right false b e = absurd (false≢true e)

pub and_in : (a b : Bool) → a ≡ true → b ≡ true → (a && b) ≡ true
and_in a b e f = rw (e, f)

pub or_cases : (a b : Bool) → (a || b) ≡ true → (a ≡ true) ⊎ (b ≡ true)
or_cases true b e = inl refl
or_cases false b e = inr e

pub or_left : (a b : Bool) → a ≡ true → (a || b) ≡ true
or_left a b e = rw e

pub or_right : (a b : Bool) → b ≡ true → (a || b) ≡ true
or_right true b e = refl
or_right false b e = e

pub or_false : (a b : Bool) → (a || b) ≡ false → (a ≡ false) × (b ≡ false)
or_false true b e = absurd (true≢false e)
or_false false b e = (refl, e)

-- many tests joined by `&&`: one by one, and together
abbrev joined : Bool → List Bool → Bool
joined a [] = a
joined a (b ∷ bs) = a && joined b bs

abbrev AllHold : Bool → List Bool → Type 0
AllHold a [] = a ≡ true
AllHold a (b ∷ bs) = (a ≡ true) × AllHold b bs

pub split : (a : Bool) (bs : List Bool) → joined a bs ≡ true → AllHold a bs
split a [] e = e
split a (b ∷ bs) e = (and_left a (joined b bs) e, split b bs (and_right a (joined b bs) e))

pub or_none : (a : Bool) → (a || false) ≡ a
or_none true = refl
or_none false = refl
