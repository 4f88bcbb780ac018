-- The loop of `character::fill_cells`: the places passed hold what the token rules know, with the tag.
use lib.ListN.{length}
use Rattle.character.proofs.CharacterLaws.{Cut}
use Rattle.character.proofs.fill_cells.Given as goal

abbrev pub invariant-loop-cell : goal.invariant-loop-cell
invariant-loop-cell l = Cut (length l.initial.out) l.tag l.base l.image l.out l.cell-index
