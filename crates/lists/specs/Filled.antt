-- Inner: no public statement cites this file.
-- A table that is filled place by place.
use Rattle.std.specs.Prelude.{ℕ, ◌<◌, ◌≡◌, List, length, get_or}

-- the table t has so many places, and the first k of them hold what f gives
pub record Filled (size : ℕ) (f : ℕ → ℕ) (t : List ℕ) (k : ℕ) : Type 0 where
  pub long : length t ≡ size
  pub each : (y : ℕ) → y < k → get_or t y 0 ≡ f y
