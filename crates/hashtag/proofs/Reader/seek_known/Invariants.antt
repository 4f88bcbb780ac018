-- The loop of `hashtag::Reader::seek_known`: no hashtag begins in what was passed over, and the place is where a character begins, on this line.
use Prim.Native.Nat.{◌-◌}
use lib.ListN.{length}
use Rattle.hashtag.proofs.KnownLaws.{Walked}
use Rattle.hashtag.proofs.Reader.seek_known.Given as goal

abbrev pub invariant-loop-at : goal.invariant-loop-at
invariant-loop-at l = Walked l.self.image.now l.self.text.now l.from l.at l.line

abbrev pub decreases-loop-at : goal.decreases-loop-at
decreases-loop-at l = length l.self.text.now - l.at
