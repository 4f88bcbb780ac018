-- The invariant of the loop of `hashtag::skip`.
use Rattle.std.proofs.Common.{false}
use Rattle.hashtag.specs.Seek.{BytesPassed}
use Rattle.hashtag.proofs.skip.Given as goal

abbrev pub invariant-loop-at : goal.invariant-loop-at
invariant-loop-at l = BytesPassed false l.text l.from l.at
