-- What is learnt stays right where no row is free any more. Assumes nothing.
use Prim.Native.Nat.{ℕ, zero, suc, ◌≤◌}
use mathlib.Core.Path.{◌≡◌, refl}
use mathlib.Core.List.{List, [], ◌∷◌}
use native.Mathlib.Omega.{arith}
use lib.ListN.{length, get_or}
use Rattle.blocks.specs.Blocks.{Learning}

past_end : (xs : List ℕ) (i : ℕ) → length xs ≤ i → get_or xs i 0 ≡ 0
past_end [] i h = refl
past_end (x ∷ xs) zero h = absurd (omega arith)
past_end (x ∷ xs) (suc i) h = past_end xs i (omega arith)

pub learnt_whole : {s index cells : List ℕ} {rows : ℕ} → Learning s index cells rows → Learning s index cells (length cells)
learnt_whole {s} {index} {cells} l =
    record {
      cached = l.cached;
      free = λ b h. omega (arith, l.cached.fits.rows b h);
      start = l.start;
      own = l.own;
      blank = λ i h. past_end cells i (omega arith);
    }
