-- The loop of `mark::run_mark`: what is counted is so in the state of the row, and the starts are marked up to the token under way.
use Prim.Native.Nat.{◌+◌, ◌-◌}
use lib.ListN.{length}
use Rattle.mark.proofs.MarkLaws.{Walked}
use Rattle.mark.proofs.run_mark.Given as goal

abbrev pub invariant-loop-at : goal.invariant-loop-at
invariant-loop-at l = Walked l.image l.text l.done l.run.mark l.run.refused (length l.initial.starts) l.initial.at (l.done + l.initial.k) l.starts l.row l.k l.last l.at

abbrev pub decreases-loop-at : goal.decreases-loop-at
decreases-loop-at l = length l.text - l.at
