-- `hashtag::pass_fours` meets its contract. Assumes nothing.
use mathlib.Core.Path.{◌∙◌}
use native.Mathlib.Omega.{arith}
use Rattle.hashtag.proofs.CountedLaws.{sum_part, counted_begins, counted_more}
use Rattle.hashtag.proofs.pass_fours.Goals as goal

pub loop-at-init : goal.loop-at-init
loop-at-init c = counted_begins c.requires.from_in_bounds.0

pub loop-at-preserved : goal.loop-at-preserved
loop-at-preserved c = counted_more c.loop-at.invariant 4 _ (omega arith) (omega arith) (c.look_four-ends.ensures ∙ sum_part _ _ 4) (omega (arith, c.if-ends-ge-STOP.false))
