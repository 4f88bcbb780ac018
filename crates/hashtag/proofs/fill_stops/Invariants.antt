-- The invariant of the loop of `hashtag::fill_stops`.
use Rattle.lists.specs.Filled.{Filled}
use Rattle.hashtag.specs.Seek.{stop_for}
use Rattle.hashtag.proofs.fill_stops.Given as goal

abbrev pub invariant-loop-b : goal.invariant-loop-b
invariant-loop-b l = Filled 256 (stop_for l.known) l.stop-items l.b
