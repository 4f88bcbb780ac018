-- `image::write_ranges` meets its contract. Assumes nothing.
use Prim.Native.Nat.{◌-◌, ◌*◌}
use mathlib.Core.Path.{refl, ap, ◌∙◌}
use native.Mathlib.Omega.{arith}
use lib.ListN.{length, take, drop}
use Rattle.lists.specs.Laid.{laid}
use Rattle.image.specs.Limits.{words_per_range}
use Rattle.image.specs.Ranges.{range_words}
use Rattle.image.specs.declared.Range.{Range}
use Rattle.lists.proofs.WritingLaws.{writing_begins, writing_lent, writing_ends}
use Rattle.image.proofs.write_ranges.Goals as goal

pub loop-i-init : goal.loop-i-init
loop-i-init c = writing_begins

pub loop-i-preserved : goal.loop-i-preserved
loop-i-preserved c =
    let at = words_per_range * c.loop-i.i in
    writing_lent c.loop-i.invariant refl (omega arith) (omega arith) _
    (c.put_range.ensures
    ∙ ap (λ (x : Range). laid (take (length c.loop-i.out - at) (drop at c.loop-i.out)) 0 (range_words x)) c.range_at.ensures)

pub returns : goal.returns
returns c = writing_ends c.loop-i.invariant (omega arith)
