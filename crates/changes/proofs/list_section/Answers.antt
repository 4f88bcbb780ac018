-- `changes::list_section` meets its contract. Assumes nothing.
use native.Mathlib.Omega.{arith}
use lib.ListN.{length-take, length-drop}
use Rattle.changes.proofs.LoopLaws.{turn_begins, turn_ends, turn_same, turn_few, turn_fits, turn_passed, turn_written}
use Rattle.changes.proofs.list_section.Goals as goal
use Rattle.changes.proofs.list_section.Goals.{then-t, then-count-room, else-count-room, else-t}

pub loop-next-init : goal.loop-next-init
loop-next-init c = turn_begins c.requires c.first.ensures.first_value c.first.ensures.overlap

pub put_change-requires : goal.put_change-requires
put_change-requires c =
    let f = turn_fits (rw c.in-Some.is at c.loop-next.invariant) c.if-t.true c.if-count-room.true in
    simp (length-take, length-drop) (omega arith)

pub overflow_add-count : goal.overflow_add-count
overflow_add-count c = omega (arith, turn_few (rw c.in-Some.is at c.loop-next.invariant) c.if-t.true)

pub loop-next-preserved : goal.loop-next-preserved
loop-next-preserved c =
    let w = rw c.in-Some.is at c.loop-next.invariant in
    let o = c.next-next.ensures in
    elim c.if-t.branch [
      | then-t k ↦
          rw (k.out-is, k.count-is, k.at-is)
          (elim k.if-count-room.branch [
            | then-count-room j ↦
                rw (j.out-is, j.at-is)
                (rw c.size_of-size.ensures
                (turn_written w k.if-t.true o j.if-count-room.true _ j.put_change.ensures))
            | else-count-room j ↦ rw (j.out-is, j.at-is) (turn_passed w k.if-t.true o j.if-count-room.false)
          ])
      | else-t k ↦ rw (k.out-is, k.count-is, k.at-is) (turn_same w k.if-t.false o)
    ]

pub returns : goal.returns
returns c = let t = turn_ends (rw c.in_default.is at c.loop-next.invariant) in record { value = t.0; out_after = t.1 }
