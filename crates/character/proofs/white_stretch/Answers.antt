-- `character::white_stretch` meets its contract: the line ends of ASCII, or the code point alone. Assumes nothing.
use mathlib.Core.Path.{sym, ◌∙◌}
use Rattle.character.proofs.WhiteLaws.{line_ends}
use Rattle.character.proofs.white_stretch.Goals as goal

pub returns-then-is_line_end : goal.returns-then-is_line_end
returns-then-is_line_end c = line_ends _ (sym c.is_line_end.ensures ∙ c.if-is_line_end.true) c.if-x-le-CARRIAGE_RETURN.true
