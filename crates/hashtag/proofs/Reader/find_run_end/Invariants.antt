-- The invariant and the measure of the loop of `hashtag::Reader::find_run_end`.
use Rattle.std.proofs.Common.{◌-◌, length}
use Rattle.character.specs.Read.{MemoOf}
use Rattle.hashtag.proofs.SeekLaws.{Running}
use Rattle.hashtag.proofs.Reader.find_run_end.Given as goal

abbrev pub invariant-loop-at : goal.invariant-loop-at
invariant-loop-at l = Running l.self.image.now l.self.text.now l.from l.at × MemoOf l.self.image.now l.memo

abbrev pub decreases-loop-at : goal.decreases-loop-at
decreases-loop-at l = length l.self.text.now - l.at
