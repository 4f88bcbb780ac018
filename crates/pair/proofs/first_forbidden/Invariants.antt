-- The loop of `pair::first_forbidden`: no code point before the next overlap has a forbidden change.
use Prim.Native.Nat.{◌-◌}
use Rattle.pair.specs.Walk.{code_points, OverlapAt}
use Rattle.image.specs.declared.records.Section.TheVariants.{Ranges}
use Rattle.pair.proofs.OverlapLaws.{stands_at, Clear}
use Rattle.pair.proofs.first_forbidden.Given as goal

abbrev pub invariant-loop-next : goal.invariant-loop-next
invariant-loop-next l = Clear l.fn.older l.fn.newer (stands_at l.next) × OverlapAt l.fn.older l.fn.newer Ranges (stands_at l.next) l.next

abbrev pub decreases-loop-next : goal.decreases-loop-next
decreases-loop-next l = code_points - stands_at l.next
