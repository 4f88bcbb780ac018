-- The loop of `changes::list_section`: the changes that begin before the next overlap are counted, and those with room stand in the
-- buffer.
use Prim.Native.Nat.{◌-◌}
use Rattle.pair.specs.Walk.{code_points}
use Rattle.pair.proofs.OverlapLaws.{stands_at}
use Rattle.changes.proofs.LoopLaws.{Turn}
use Rattle.changes.proofs.list_section.Given as goal

abbrev pub invariant-loop-next : goal.invariant-loop-next
invariant-loop-next l = Turn l.overlaps.older.now l.overlaps.newer.now l.overlaps.section l.room l.initial.out l.out l.next l.count l.at

abbrev pub decreases-loop-next : goal.decreases-loop-next
decreases-loop-next l = code_points - stands_at l.next
