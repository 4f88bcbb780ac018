-- The invariant of the loop of `hashtag::pass_bytes`.
use Rattle.hashtag.specs.Seek.{LinesCounted}
use Rattle.hashtag.proofs.pass_bytes.Given as goal

abbrev pub invariant-loop-at : goal.invariant-loop-at
invariant-loop-at l = LinesCounted l.text l.from l.first (record { at = l.at; line = l.line })
