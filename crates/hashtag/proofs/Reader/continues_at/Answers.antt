-- `hashtag::Reader::continues_at` meets its contract. Assumes nothing.
use Rattle.std.proofs.Common.{arith, ◌∙◌}
use Rattle.utf8.proofs.TextLaws.{characters_ill, characters_end}
use Rattle.hashtag.proofs.SeekLaws.{read_continues}
use Rattle.hashtag.proofs.Reader.continues_at.Goals as goal

pub returns-then-self-at : goal.returns-then-self-at
returns-then-self-at c = rw (characters_end c.args.self.text.now c.args.at c.if-self-at.true)

pub returns-then-c-ne0 : goal.returns-then-c-ne0
returns-then-c-ne0 c = c.continues.ensures ∙ (read_continues _ _ _ _ c.recall.ensures c.if-self-at.false c.read-c.ensures (omega arith)).1

pub returns-else-c-ne0 : goal.returns-else-c-ne0
returns-else-c-ne0 c = rw (c.if-c-ne0.false, characters_ill c.args.self.text.now c.args.at (c.read-c.ensures.none c.if-c-ne0.false))
