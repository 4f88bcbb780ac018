-- Inner: no public statement cites this file.
-- Four characters of ASCII at once.
use Rattle.std.specs.Prelude.{ℕ, ◌+◌, ◌≤◌, ◌<◌, ◌≡◌, List, length, get_or}
use Rattle.count.specs.Steps.{step_for}

-- cells begin with traits of ASCII
pub record SmallCells (cells : List ℕ) : Type 0 where
  pub long : 128 ≤ length cells
  pub small : (y : ℕ) → y < 128 → get_or cells y 0 < 16

-- the cell of the byte at a place
abbrev pub cell_for : List ℕ → List ℕ → ℕ → ℕ
cell_for cells text at = get_or cells (get_or text at 0) 0

-- four characters of ASCII stand at a place, and with them n tokens are complete after a row
pub record FourSteps (cells text : List ℕ) (at row n : ℕ) : Type 0 where
  pub first : get_or text at 0 < 0x80
  pub second : get_or text (at + 1) 0 < 0x80
  pub third : get_or text (at + 2) 0 < 0x80
  pub fourth : get_or text (at + 3) 0 < 0x80
  pub known : n < 128
  pub steps :
      n
      ≡ step_for row (cell_for cells text at) + step_for (cell_for cells text at) (cell_for cells text (at + 1)) + step_for (cell_for cells text (at + 1)) (cell_for cells text (at + 2)) + step_for (cell_for cells text (at + 2)) (cell_for cells text (at + 3))
