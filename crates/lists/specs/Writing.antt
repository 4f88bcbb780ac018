-- Inner: no public statement cites this file.
-- Records of w values each that are written into a buffer, one after the other.
use Rattle.std.specs.Prelude.{ℕ, ◌-◌, ◌*◌, ◌≤◌, ◌≡◌, List, length}
use Rattle.lists.specs.Laid.{laid}
use Rattle.lists.specs.Each.{each_from, each}

-- the first i of n records stand in the buffer: with the others it is the whole list laid into the buffer as it was
pub record Writing (f : ℕ → List ℕ) (w n : ℕ) (before out : List ℕ) (i : ℕ) : Type 0 where
  pub within : i ≤ n
  pub size : length out ≡ length before
  pub same : laid out (w * i) (each_from f (n - i) i) ≡ laid before 0 (each f n)
