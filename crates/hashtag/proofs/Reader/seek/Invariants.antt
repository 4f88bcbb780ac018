-- The loop of `hashtag::Reader::seek`: no hashtag begins in what was passed over.
use Prim.Native.Nat.{◌-◌}
use lib.ListN.{length}
use Rattle.hashtag.proofs.SeekLaws.{Seeking}
use Rattle.hashtag.proofs.Reader.seek.Given as goal

abbrev pub invariant-loop-at : goal.invariant-loop-at
invariant-loop-at l = Seeking l.self.image.now l.self.text.now l.from l.before l.at

abbrev pub decreases-loop-at : goal.decreases-loop-at
decreases-loop-at l = length l.self.text.now - l.at
