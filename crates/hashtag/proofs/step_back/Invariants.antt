-- The invariant of the loop of `hashtag::step_back`.
use Rattle.hashtag.proofs.KnownLaws.{Back}
use Rattle.hashtag.proofs.step_back.Given as goal

abbrev pub invariant-loop-at : goal.invariant-loop-at
invariant-loop-at l = Back l.text l.from l.to l.at
