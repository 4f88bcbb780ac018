-- Ranges that rise, and the place of a number among them (docs/RULES.md, "The class image").
use Rattle.std.specs.Prelude.{ℕ, ◌-◌, ◌≤◌, ◌<◌}
use Rattle.lists.specs.First.{AllGood}
use Rattle.image.specs.Good.{GoodRange}
use Rattle.image.specs.declared.Range.{Range}

-- each of the n ranges is good
abbrev pub GoodRanges : (ℕ → Range) → ℕ → Type 0
GoodRanges at n = AllGood (GoodRange at) n

-- none of the n ranges is empty, and each begins after the end of the one before
pub record Rising (at : ℕ → Range) (n : ℕ) : Type 0 where
  pub ordered : (i : ℕ) → i < n → (at i).first ≤ (at i).last
  pub after : (i : ℕ) → 0 < i → i < n → (at (i - 1)).last < (at i).first

-- the first i of n ranges are passed on the way to x: the last of them ends before x
pub record Passed (at : ℕ → Range) (n i x : ℕ) : Type 0 where
  pub within : i ≤ n
  pub before : 0 < i → (at (i - 1)).last < x

-- i is the place of x among n ranges: those before i are passed, and range i ends at x or later
pub record Placed (at : ℕ → Range) (n i x : ℕ) : Type 0 where
  pub passed : Passed at n i x
  pub reached : i < n → x ≤ (at i).last
