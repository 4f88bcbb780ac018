-- `character::fill_part` meets its contract: the places passed hold their traits, and the walk has come to the next. Assumes nothing.
use Prim.Native.Nat.{◌+◌}
use mathlib.Core.Path.{refl, sym}
use native.Mathlib.Omega.{arith}
use Rattle.lists.proofs.FilledLaws.{filled_none, filled_more, filled_all}
use Rattle.character.proofs.CharacterLaws.{traits_small, memo_known}
use Rattle.character.proofs.PlaceLaws.{WalkAt, walk_begins, walk_on, walk_same}
use Rattle.character.proofs.fill_part.Goals as goal
use Rattle.character.proofs.fill_part.Goals.{Joined-not-is_known, then-not-is_known, else-not-is_known}

-- the walk has come to the code point
walked : (c : goal.Joined-not-is_known)
    → let a = c.args in
    WalkAt a.image.now (a.base + c.loop-i.i) c.if-not-is_known.range c.if-not-is_known.entry c.if-not-is_known.memo
walked c =
    elim c.if-not-is_known.branch [
      | then-not-is_known w ↦
          let m = w.memo_of-memo.ensures in
          walk_same
          (record { walk = record { range = w.next_place-range.ensures.passed; entry = w.next_place-entry.ensures.passed; memo = m.all }; here = m })
          w.range-is
          w.entry-is
          w.memo-is
      | else-not-is_known w ↦
          walk_same
          (record { walk = c.loop-i.invariant.2; here = memo_known c.is_known.ensures w.if-not-is_known.false c.loop-i.invariant.2.memo })
          w.range-is
          w.entry-is
          w.memo-is
    ]

pub loop-i-init : goal.loop-i-init
loop-i-init c = (omega arith, filled_none refl, walk_begins _ _ _ _ _ c.passed_place-range.ensures c.passed_place-entry.ensures (c.no_memo-memo.ensures _), c.recall.ensures)

pub overflow_cast-x : goal.overflow_cast-x
overflow_cast-x c = omega (arith, c.loop-i.invariant.0, c.requires.out_bound, c.loop-i-test.true, c.loop-i.invariant.1.long)

pub overflow_add-x : goal.overflow_add-x
overflow_add-x c = omega (arith, c.loop-i.invariant.0, c.requires.out_bound, c.loop-i-test.true, c.loop-i.invariant.1.long)

pub next_place-range-requires : goal.next_place-range-requires
next_place-range-requires c = record { passed = c.loop-i.invariant.2.range }

pub next_place-entry-requires : goal.next_place-entry-requires
next_place-entry-requires c = record { passed = c.loop-i.invariant.2.entry }

pub stretch_at-class-requires : goal.stretch_at-class-requires
stretch_at-class-requires c = record { placed = c.next_place-range.ensures }

pub stretch_at-role-requires : goal.stretch_at-role-requires
stretch_at-role-requires c = record { placed = c.next_place-entry.ensures }

pub memo_of-memo-requires : goal.memo_of-memo-requires
memo_of-memo-requires c = record { stretch_of = c.stretch_at-class.ensures; stretch_of_2 = c.stretch_at-role.ensures }

pub overflow_cast-cell : goal.overflow_cast-cell
overflow_cast-cell c =
    let m = (walked (goal.at.overflow_cast-cell c).Joined-not-is_known).here in
    omega (arith, sym (m.all _ m.from m.to), traits_small _ (c.args.base + c.loop-i.i) c.loop-i.invariant.3)

pub loop-i-preserved : goal.loop-i-preserved
loop-i-preserved c =
    let w = walked (goal.at.loop-i-preserved c).Joined-not-is_known in
    let m = w.here in
    (omega arith, filled_more _ (omega arith) c.loop-i.invariant.1 (sym (m.all _ m.from m.to)), walk_on _ _ _ (omega arith) w.walk, c.loop-i.invariant.3)

pub shape_of-out : goal.shape_of-out
shape_of-out c = c.loop-i.invariant.1.long

pub returns : goal.returns
returns c = filled_all c.loop-i.invariant.1 (omega (arith, c.loop-i-test.false, c.loop-i.invariant.1.long))
