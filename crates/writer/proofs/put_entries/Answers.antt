-- `writer::put_entries` meets its contract. Assumes nothing.
use mathlib.Core.Path.{ap, ◌∙◌}
use native.Mathlib.Omega.{arith}
use Rattle.lists.specs.Laid.{laid}
use Rattle.lists.specs.Each.{each}
use Rattle.lists.proofs.WritingLaws.{writing_begins, writing_lent, writing_ends}
use Rattle.image.specs.Profile.{profile_by}
use Rattle.image.specs.Image.{entry_words}
use Rattle.writer.proofs.WordLaws.{length_all, bytes_each_list}
use Rattle.writer.proofs.put_entries.Goals as goal

pub loop-i-init : goal.loop-i-init
loop-i-init c = writing_begins

pub loop-i-preserved : goal.loop-i-preserved
loop-i-preserved c = writing_lent c.loop-i.invariant (length_all _) (omega arith) (omega arith) _ c.put_words.ensures

pub returns : goal.returns
unfolding each
returns c =
    let e = c.args.entries.now in
    writing_ends c.loop-i.invariant (omega arith)
    ∙ ap (laid c.args.out.now 0) (bytes_each_list (entry_words (profile_by e.points.now e.roles.now e.used)) e.used 0)
