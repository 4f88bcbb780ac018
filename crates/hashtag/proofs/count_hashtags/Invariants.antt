-- The loop of `hashtag::count_hashtags`: the count, and the hashtags still to be found.
use Rattle.std.proofs.Common.{◌-◌, length}
use Rattle.hashtag.proofs.ListLaws.{Counting}
use Rattle.hashtag.proofs.count_hashtags.Given as goal

abbrev pub invariant-loop-sign : goal.invariant-loop-sign
invariant-loop-sign l = Counting l.fn.image l.text l.count l.at

abbrev pub decreases-loop-sign : goal.decreases-loop-sign
decreases-loop-sign l = length l.text - l.at
