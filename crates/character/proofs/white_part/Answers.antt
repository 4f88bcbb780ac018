-- `character::white_part` meets its contract, by the kind of White. Assumes nothing.
use mathlib.Core.Path.{sym, ◌∙◌}
use Rattle.grammar.specs.White.{white_of}
use Rattle.character.proofs.white_part.Goals as goal

pub returns-then-is_line_end : goal.returns-then-is_line_end
unfolding white_of
returns-then-is_line_end c = rw (sym c.is_line_end.ensures ∙ c.if-is_line_end.true)

pub returns-then-is_mark : goal.returns-then-is_mark
unfolding white_of
returns-then-is_mark c = rw (sym c.is_line_end.ensures ∙ c.if-is_line_end.false, sym c.is_mark.ensures ∙ c.if-is_mark.true)

pub returns-else-is_mark : goal.returns-else-is_mark
unfolding white_of
returns-else-is_mark c = rw (sym c.is_line_end.ensures ∙ c.if-is_line_end.false, sym c.is_mark.ensures ∙ c.if-is_mark.false)
