-- `blocks::begin` meets its contract. Assumes nothing.
use Prim.Native.Nat.{ℕ, ◌≤◌}
use mathlib.Core.Path.{◌≡◌, refl, ◌∙◌}
use native.Mathlib.Omega.{arith}
use mathlib.Core.List.{List}
use lib.ListN.{length, take, length-take}
use borrow.Rule.Slice.PartMut.{put_mid, same_len_mid}
use Rattle.lists.specs.Filled.{Filled}
use Rattle.blocks.proofs.LearnLaws.{beginning, begins}
use Rattle.blocks.proofs.begin.Goals as goal

-- the part that ASCII is put into
room : (cells : List ℕ) → 128 ≤ length cells → length (take 128 cells) ≡ 128
room cells h = length-take 128 cells ∙ omega arith

kept_long : (cells : List ℕ) {ys : List ℕ} {f : ℕ → ℕ} {n : ℕ} → Filled (length (take 128 cells)) f ys n → length (put_mid 0 128 cells ys) ≡ length cells
kept_long cells {ys = ys} f = same_len_mid 0 128 cells ys f.long

pub returns-else-cells : goal.returns-else-cells
returns-else-cells c = (begins c.recall.ensures (beginning _ c.requires.in_bounds.1 (room c.args.cells.now c.requires.in_bounds.0) c.fill_cells.ensures) (omega arith) (λ h. absurd (omega (arith, c.if-cells.false))), kept_long c.args.cells.now c.fill_cells.ensures)

pub loop-i-init : goal.loop-i-init
loop-i-init c = (beginning _ c.requires.in_bounds.1 (room c.args.cells.now c.requires.in_bounds.0) c.fill_cells.ensures, omega arith, refl)

pub returns-after-loop-i : goal.returns-after-loop-i
returns-after-loop-i c = (begins c.recall.ensures c.loop-i.invariant.0 c.loop-i.invariant.1 (λ h. c.loop-i-test.false), c.loop-i.invariant.2 ∙ kept_long c.args.cells.now c.fill_cells.ensures)
