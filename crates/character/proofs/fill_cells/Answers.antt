-- `character::fill_cells` meets its contract: the places passed hold what the token rules know, with the tag. Assumes nothing.
use mathlib.Core.Path.{◌∙◌}
use native.Mathlib.Omega.{arith}
use Rattle.character.proofs.CharacterLaws.{cut_begins, cut_more}
use Rattle.character.proofs.fill_cells.Goals as goal

pub loop-cell-init : goal.loop-cell-init
loop-cell-init c = cut_begins c.fill_part.ensures

pub loop-cell-preserved : goal.loop-cell-preserved
loop-cell-preserved c = cut_more c.recall.ensures (omega (arith, c.loop-cell-test.true, c.loop-cell.invariant.cut.long)) c.loop-cell.invariant

pub shape_of-out : goal.shape_of-out
shape_of-out c = c.loop-cell.invariant.cut.long ∙ c.fill_part.ensures.long

pub returns : goal.returns
returns c = record { long = c.loop-cell.invariant.cut.long ∙ c.fill_part.ensures.long; each = λ y h. c.loop-cell.invariant.cut.each y (omega (arith, c.loop-cell-test.false, c.loop-cell.invariant.cut.long)) }
