-- `character::is_mark` meets its contract. Assumes nothing.
use borrow.Author.Tests.{ne_eqb}
use Rattle.grammar.specs.White.{is_mark}
use Rattle.character.proofs.is_mark.Goals as goal

pub returns-then-code-eq-LEFT_TO_RIGHT_MARK : goal.returns-then-code-eq-LEFT_TO_RIGHT_MARK
unfolding is_mark
returns-then-code-eq-LEFT_TO_RIGHT_MARK c = rw c.if-code-eq-LEFT_TO_RIGHT_MARK.true

pub returns-else-code-eq-LEFT_TO_RIGHT_MARK : goal.returns-else-code-eq-LEFT_TO_RIGHT_MARK
unfolding is_mark
returns-else-code-eq-LEFT_TO_RIGHT_MARK c = rw (ne_eqb _ 0x200E c.if-code-eq-LEFT_TO_RIGHT_MARK.false)
