-- A list whose numbers are all 0 is blank. Assumes nothing.
use Prim.Native.Nat.{ℕ, zero, suc}
use mathlib.Core.Path.{◌≡◌, refl}
use mathlib.Core.Bool.{Bool, true, ◌&&◌}
use mathlib.Core.List.{List, [], ◌∷◌}
use lib.ListN.{get_or}
use lib.Dec.{eqb}
use borrow.Author.Tests.{eqb-true}
use Rattle.lists.proofs.BoolLaws.{and_left, and_right}
use Rattle.blocks.specs.Blocks.{Blank}

abbrev pub all_zero : List ℕ → Bool
all_zero [] = true
all_zero (x ∷ xs) = eqb x 0 && all_zero xs

all_zero_lem : (xs : List ℕ) → all_zero xs ≡ true → (i : ℕ) → get_or xs i 0 ≡ 0
all_zero_lem [] e i = refl
all_zero_lem (x ∷ xs) e zero = eqb-true x 0 (and_left (eqb x 0) (all_zero xs) e)
all_zero_lem (x ∷ xs) e (suc i) = all_zero_lem xs (and_right (eqb x 0) (all_zero xs) e) i

pub blank : (xs : List ℕ) → all_zero xs ≡ true → Blank xs
blank xs e = record { each = all_zero_lem xs e }
