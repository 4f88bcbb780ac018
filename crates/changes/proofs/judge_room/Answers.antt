-- `changes::judge_room` meets its contract. Assumes nothing.
use native.Mathlib.Omega.{arith}
use Rattle.image.proofs.SectionLaws.{few_records}
use Rattle.changes.proofs.BoundLaws.{few_changes}
use Rattle.changes.proofs.RoomLaws.{sufficient}
use Rattle.changes.proofs.judge_room.Goals as goal

pub overflow_add-n : goal.overflow_add-n
overflow_add-n c =
    let f = few_records _ c.count_records-n.ensures.accepted c.args.overlaps.section in
    let g = few_records _ c.count_records-m.ensures.accepted c.args.overlaps.section in
    omega (arith, c.count_records-n.ensures.count, c.count_records-m.ensures.count)

pub returns-then-n-m : goal.returns-then-n-m
returns-then-n-m c =
    let l = few_changes c.args.overlaps.section _ _ c.count_records-n.ensures.accepted c.count_records-m.ensures.accepted in
    sufficient _ _ (omega (arith, c.count_records-n.ensures.count, c.count_records-m.ensures.count, c.if-n-m.true))
