-- `blocks::put_row` meets its contract. Assumes nothing.
use mathlib.Core.Path.{refl}
use native.Mathlib.Omega.{arith}
use Rattle.blocks.proofs.LearnLaws.{row_put}
use Rattle.blocks.proofs.put_row.Goals as goal

pub put_cells-requires : goal.put_cells-requires
put_cells-requires c = (omega (arith, c.part_end.ensures.2 c.part_begin.result (omega arith) (omega arith)), omega (arith, c.part_end.ensures.0, c.requires.block_size_in_bounds))

pub returns : goal.returns
returns c = row_put c.args.block c.args.row (omega arith) refl c.part_end.ensures.0 c.part_end.ensures.1 c.part_end.ensures.2 c.requires.meets.from c.put_cells.ensures
