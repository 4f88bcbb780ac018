-- The loop of `count::run_count`: what is counted is so in the state of the row, and a medial that waits is the last character.
use Prim.Native.Nat.{◌-◌}
use lib.ListN.{length}
use Rattle.count.proofs.KnownLaws.{Running}
use Rattle.count.proofs.run_count.Given as goal

abbrev pub invariant-loop-at : goal.invariant-loop-at
invariant-loop-at l = Running l.image l.text l.run.mark l.run.refused l.initial.at l.row l.count l.last l.at

abbrev pub decreases-loop-at : goal.decreases-loop-at
decreases-loop-at l = length l.text - l.at
