-- `hashtag::pass_bytes` meets its contract. Assumes nothing.
use Rattle.std.proofs.Common.{true, sym, ◌∙◌, arith}
use Rattle.hashtag.proofs.CountedLaws.{sum_one, counted_begins, counted_more}
use Rattle.hashtag.proofs.pass_bytes.Goals as goal

pub loop-at-init : goal.loop-at-init
loop-at-init c = counted_begins c.requires.from_in_bounds.0

pub loop-at-preserved : goal.loop-at-preserved
loop-at-preserved c =
    counted_more c.loop-at.invariant 1 _ (omega arith) (omega arith) (c.look-end.ensures true c.requires.stops_of ∙ sym (sum_one _ _)) (omega arith)
