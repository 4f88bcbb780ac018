-- The loop of `hashtag::write_hashtags`: the words of the hashtags found so far stand in the buffer.
use Rattle.std.proofs.Common.{◌-◌, length}
use Rattle.hashtag.proofs.ListLaws.{Writing}
use Rattle.hashtag.proofs.write_hashtags.Given as goal

abbrev pub invariant-loop-found : goal.invariant-loop-found
invariant-loop-found l = Writing l.fn.image l.text l.initial.out l.out l.w l.at l.line

abbrev pub decreases-loop-found : goal.decreases-loop-found
decreases-loop-found l = length l.text - l.at
