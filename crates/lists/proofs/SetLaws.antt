-- A record of three or four values written at the front of a buffer, one value after the other. Assumes nothing.
use Prim.Native.Nat.{ℕ, ◌≤◌}
use mathlib.Core.Path.{◌≡◌, refl}
use mathlib.Core.List.{List, [], ◌∷◌}
use native.Mathlib.Omega.{arith}
use lib.ListN.{length, drop, set}

pub set_three : (l : List ℕ) (x y z : ℕ) → 3 ≤ length l → set (set (set l 0 x) 1 y) 2 z ≡ x ∷ y ∷ z ∷ drop 3 l
set_three [] x y z h = absurd (omega arith)
set_three (a ∷ []) x y z h = absurd (omega arith)
set_three (a ∷ b ∷ []) x y z h = absurd (omega arith)
set_three (a ∷ b ∷ c ∷ l) x y z h = refl

pub set_four : (l : List ℕ) (w x y z : ℕ) → 4 ≤ length l → set (set (set (set l 0 w) 1 x) 2 y) 3 z ≡ w ∷ x ∷ y ∷ z ∷ drop 4 l
set_four [] w x y z h = absurd (omega arith)
set_four (a ∷ []) w x y z h = absurd (omega arith)
set_four (a ∷ b ∷ []) w x y z h = absurd (omega arith)
set_four (a ∷ b ∷ c ∷ []) w x y z h = absurd (omega arith)
set_four (a ∷ b ∷ c ∷ d ∷ l) w x y z h = refl
