-- `writer::put_words` meets its contract. Assumes nothing.
use mathlib.Core.Path.{ap, ◌∙◌}
use native.Mathlib.Omega.{arith}
use lib.ListN.{length}
use Rattle.lists.specs.Laid.{laid}
use Rattle.lists.specs.Each.{each}
use Rattle.lists.proofs.WritingLaws.{writing_begins, writing_lent, writing_ends}
use Rattle.writer.proofs.WordLaws.{length_four, bytes_each_word}
use Rattle.writer.proofs.put_words.Goals as goal

pub loop-i-init : goal.loop-i-init
loop-i-init c = writing_begins

pub loop-i-preserved : goal.loop-i-preserved
loop-i-preserved c = writing_lent c.loop-i.invariant (length_four _) (omega arith) (omega arith) _ c.put_word.ensures

pub returns : goal.returns
unfolding each
returns c =
    writing_ends c.loop-i.invariant (omega arith)
    ∙ ap (laid c.args.out.now 0) (bytes_each_word c.args.words.now (length c.args.words.now) 0 (omega arith))
