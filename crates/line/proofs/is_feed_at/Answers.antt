-- `line::is_feed_at` meets its contract. Assumes nothing.
use mathlib.Core.Path.{sym, ◌∙◌}
use borrow.Author.Tests.{le-ltb}
use Rattle.line.proofs.LineLaws.{feed_end, feed_byte}
use Rattle.line.proofs.is_feed_at.Goals as goal

pub returns-then-at-text : goal.returns-then-at-text
returns-then-at-text c = sym (feed_byte _ _ c.if-at-text.true)

pub returns-else-at-text : goal.returns-else-at-text
returns-else-at-text c = le-ltb _ _ c.if-at-text.false ∙ sym (feed_end _ _ c.if-at-text.false)
