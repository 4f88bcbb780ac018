-- `count::count_on` meets its contract. Assumes nothing.
use Prim.Native.Nat.{◌≤◌, ◌<◌}
use mathlib.Core.Path.{◌≡◌, refl, sym, subst, ◌∙◌}
use native.Mathlib.Omega.{arith}
use lib.ListN.{length}
use Rattle.std.proofs.lemmas.Result.{err_from_is_err_and}
use Rattle.blocks.specs.Blocks.{Learning}
use Rattle.count.specs.Counting.{CountingAs}
use Rattle.count.proofs.CountLaws.{counting_few, finishes}
use Rattle.count.proofs.LookLaws.{looked_on}
use Rattle.count.proofs.count_on.Goals as goal
use Rattle.count.proofs.count_on.Goals.{Joined-row-lt-NO_ROW, Left-loop-run, then-row-lt-NO_ROW+else-text-run, else-row-lt-NO_ROW, else-loop-run-test, then-loop-run-test+then-row-lt-NO_ROW+then-text-run}

-- the count where it goes on with the character at its place
goes_on : (c : goal.Joined-row-lt-NO_ROW)
    → let a = c.args in
    let l = c.loop-run in
    CountingAs a.image.now a.text.now c.if-row-lt-NO_ROW.run × (l.run.at ≤ c.if-row-lt-NO_ROW.run.at) × (c.if-row-lt-NO_ROW.run.at < length a.text.now) × (c.if-row-lt-NO_ROW.run.rows ≡ l.run.rows)
goes_on c =
    elim c.if-row-lt-NO_ROW.branch [
      | then-row-lt-NO_ROW+else-text-run w ↦ rw w.run-is (w.run_count-run.ensures.0, w.run_count-run.ensures.1, w.if-text-run.false, w.run_count-run.ensures.2)
      | else-row-lt-NO_ROW w ↦ rw w.run-is (c.loop-run.invariant.0, omega arith, c.loop-run-test.true, refl)
    ]

-- .. and where it is done
ended : (c : goal.Left-loop-run)
    → let a = c.args in
    CountingAs a.image.now a.text.now c.loop-run-test.run × (length a.text.now ≤ c.loop-run-test.run.at)
ended c =
    elim c.loop-run-test.branch [
      | else-loop-run-test w ↦ rw w.run-is (c.loop-run.invariant.0, w.loop-run-test.false)
      | then-loop-run-test+then-row-lt-NO_ROW+then-text-run w ↦ rw w.run-is (w.run_count-run.ensures.0, w.if-text-run.true)
    ]

pub loop-run-init : goal.loop-run-init
loop-run-init c = (c.requires.counting_as, c.requires.learning, refl, refl)

pub row_of-row-requires : goal.row_of-row-requires
row_of-row-requires c = c.loop-run.invariant.0.counting.less

pub run_count-run-requires : goal.run_count-run-requires
run_count-run-requires c = record { cached = c.loop-run.invariant.1.cached; row_bound = (c.if-row-lt-NO_ROW.true, c.row_of-row.ensures c.if-row-lt-NO_ROW.true); counting_as = c.loop-run.invariant.0 }

pub look-requires : goal.look-requires
look-requires c = let g = goes_on c in record { token_table_of = c.loop-run.invariant.1.cached.ascii; counting_as = g.0; at_in_bounds = g.2 }

pub shape_of-index-in_err-next : goal.shape_of-index-in_err-next
shape_of-index-in_err-next c = c.loop-run.invariant.2

pub shape_of-cells-in_err-next : goal.shape_of-cells-in_err-next
shape_of-cells-in_err-next c = c.loop-run.invariant.3

pub returns-in_err-next : goal.returns-in_err-next
returns-in_err-next c =
    let p = err_from_is_err_and c.from_residual.result c.from_residual.ensures.1 in
    record { value = rw (p.1, p.2) c.in_err-next.ensures; learnt = record { rows = _; learning = c.loop-run.invariant.1 } }

pub learn_at-rows-requires : goal.learn_at-rows-requires
learn_at-rows-requires c = record { fits = c.loop-run.invariant.1.cached.fits; at_in_bounds = (goes_on (goal.at.learn_at-rows-requires c).Joined-row-lt-NO_ROW).2 }

pub loop-run-smaller : goal.loop-run-smaller
loop-run-smaller c = let g = goes_on (goal.at.loop-run-smaller c).Joined-row-lt-NO_ROW in omega (arith, g.1, g.2, c.in_ok-next.ensures.on)

pub loop-run-preserved : goal.loop-run-preserved
loop-run-preserved c =
    let g = goes_on (goal.at.loop-run-preserved c).Joined-row-lt-NO_ROW in
    let l = c.learn_at-rows.ensures.by_index _ c.recall.ensures c.in_ok-next.ensures.memo (subst (Learning _ _ _) (sym g.3) c.loop-run.invariant.1) in
    (looked_on _ _ _ _ _ c.in_ok-next.ensures g.0, l, omega arith, omega arith)

pub finish-requires : goal.finish-requires
finish-requires c =
    let i = (ended c).0.counting in
    (i.reached.medial.within, counting_few i)

pub shape_of-index : goal.shape_of-index
shape_of-index c = c.loop-run.invariant.2

pub shape_of-cells : goal.shape_of-cells
shape_of-cells c = c.loop-run.invariant.3

pub returns : goal.returns
returns c = let e = ended (goal.at.returns c).Left-loop-run in record { value = c.finish.ensures ∙ finishes _ _ _ e.0 e.1; learnt = record { rows = _; learning = c.loop-run.invariant.1 } }
