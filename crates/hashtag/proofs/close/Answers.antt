-- `hashtag::close` meets its contract. Assumes nothing.
use mathlib.Core.Path.{ap, ◌∙◌}
use lib.ListN.{drop, drop_of_length-le}
use Rattle.std.specs.Prelude.{Err}
use Rattle.utf8.proofs.TextLaws.{text_ill, text_end}
use Rattle.hashtag.proofs.close.Goals as goal

pub returns-then-at-text : goal.returns-then-at-text
returns-then-at-text c = ap Err c.refuse_at.ensures ∙ rw (text_ill _ (c.requires.ill_head c.if-at-text.true))

pub returns : goal.returns
returns c = rw (text_end (drop c.args.at c.args.text.now) (drop_of_length-le c.args.text.now c.if-at-text.false))
