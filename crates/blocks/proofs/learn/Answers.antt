-- `blocks::learn` meets its contract. Assumes nothing.
use mathlib.Core.Path.{refl}
use Rattle.blocks.proofs.LearnLaws.{learns_more, learns_start, learns_row}
use Rattle.blocks.proofs.learn.Goals as goal

pub returns-then-row-ge-FIRST_ROW : goal.returns-then-row-ge-FIRST_ROW
returns-then-row-ge-FIRST_ROW c = learns_more c.args.block c.requires.fits c.requires.block_in_bounds.0 c.requires.block_in_bounds.3 refl c.if-row-ge-FIRST_ROW.true c.cell_of-cell.ensures c.put_row.ensures

pub returns-then-all_start : goal.returns-then-all_start
returns-then-all_start c =
    let a = c.all_start.ensures c.if-all_start.true in
    learns_start c.args.block c.requires.fits c.requires.block_in_bounds.0 c.requires.block_in_bounds.3 c.requires.block_in_bounds.1 c.requires.block_in_bounds.2 c.if-rows-lt-FIRST_ROW.false c.if-cells.false a.0 a.1 a.2

pub returns : goal.returns
returns c = learns_row c.args.block c.requires.fits c.requires.block_in_bounds.0 c.requires.block_in_bounds.3 c.if-rows-lt-FIRST_ROW.false c.if-cells-rows.false c.cell_of-cell.ensures c.put_row-2.ensures
