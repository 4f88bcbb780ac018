-- `character::stretch_at` meets its contract: the record at the place, or the gap before it. Assumes nothing.
use Prim.Native.Nat.{◌≤◌, ◌<◌}
use mathlib.Core.Path.{ap}
use native.Mathlib.Omega.{arith}
use Rattle.image.specs.declared.Range.{Range}
use Rattle.image.specs.Records.{record_at, record_count}
use Rattle.character.proofs.CharacterLaws.{stretch_gap, stretch_record}
use Rattle.character.proofs.stretch_at.Goals as goal
use Rattle.character.proofs.stretch_at.Goals.{Joined-count_records-i, then-count_records-i, else-count_records-i+else-r-x}

-- where the gap ends
gap :
    (c : goal.Joined-count_records-i)
    → let a = c.args in
    (a.x ≤ c.if-count_records-i.last) × (a.i < record_count a.image.now a.section → c.if-count_records-i.last < (record_at a.image.now a.section a.i).first)
gap c =
    elim c.if-count_records-i.branch [
      | then-count_records-i w ↦ (omega (arith, w.last-is, c.ranges.x), λ h. absurd (omega (arith, c.count_records.ensures.count, w.if-count_records-i.true)))
      | else-count_records-i+else-r-x w ↦
          let e = ap (λ (r : Range). r.first) w.record_at-r.ensures in
          (omega (arith, w.last-is, w.if-r-x.false), λ h. omega (arith, e, w.last-is, w.if-r-x.false))
    ]

pub returns-then-r-x : goal.returns-then-r-x
returns-then-r-x c =
    let l : c.args.i < record_count c.args.image.now c.args.section = omega (arith, c.count_records.ensures.count, c.if-count_records-i.false) in
    stretch_record _ _ c.count_records.ensures.accepted _ _ _ c.record_at-r.ensures l c.if-r-x.true (c.requires.placed.reached l)

pub returns : goal.returns
returns c =
    let g = gap (goal.at.returns c).Joined-count_records-i in
    stretch_gap _ _ c.count_records.ensures.accepted _ _ _ _ c.requires.placed.passed.within c.gap_start.ensures.0 g.0 c.gap_start.ensures.1 g.1
