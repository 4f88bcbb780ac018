-- `mark::run_mark` meets its contract. Assumes nothing.
use Prim.Native.Nat.{◌+◌, ◌-◌}
use mathlib.Core.Path.{refl, ◌∙◌}
use native.Mathlib.Omega.{arith}
use lib.ListN.{length}
use Rattle.turns.proofs.ReachLaws.{here_small}
use Rattle.blocks.specs.Blocks.{FoundAt}
use Rattle.count.proofs.CountLaws.{counting_few}
use Rattle.count.proofs.RuleLaws.{rule_state}
use Rattle.count.proofs.KnownLaws.{four_bytes, here_ascii}
use Rattle.count.specs.Four.{cell_for, FourSteps}
use Rattle.count.proofs.FourLaws.{small_cells}
use Rattle.mark.proofs.MarkLaws.{Stepping, walk_begins, walk_ends, steps, steps_known, four_walk}
use Rattle.mark.proofs.run_mark.Goals as goal
use Rattle.mark.proofs.run_mark.Goals.{Else-step-ge-ODD, Else-step-ge-ODD-2, Joined-a-lt224, Then-four-lt-ODD, then-a-lt224, else-a-lt224+then-a-lt240, else-a-lt224+else-a-lt240}

pub row_of-row-requires : goal.row_of-row-requires
row_of-row-requires c = c.requires.marking.counting.counting.less

pub returns-then-row-ge-NO_ROW : goal.returns-then-row-ge-NO_ROW
returns-then-row-ge-NO_ROW c = (c.requires.marking, omega arith, omega arith, refl, refl)

pub overflow_sub-k : goal.overflow_sub-k
overflow_sub-k c = omega (arith, c.requires.marking.from)

pub loop-at-init : goal.loop-at-init
loop-at-init c = walk_begins _ c.requires.marking c.requires.text_len_bound c.if-row-ge-NO_ROW.false (c.row_of-row.ensures c.if-row-ge-NO_ROW.false)

pub overflow_add-k : goal.overflow_add-k
overflow_add-k c = omega (arith, c.loop-at.invariant.fits, counting_few c.loop-at.invariant.counting)

-- an ASCII byte
ascii : (c : goal.Else-step-ge-ODD)
    → let a = c.args in
    let l = c.loop-at in
    Stepping a.image.now a.text.now a.done a.run.mark a.run.refused (length a.starts.now) a.run.at (a.done + (a.run.count - a.done)) l.starts (cell_for a.cells.now a.text.now l.at) c.rule-step.result l.k l.at 1
ascii c =
    let b = four_bytes c.loop-at-test.true c.known_end-end.ensures in
    steps c.recall.ensures c.loop-at.invariant (omega (arith, c.if-starts-k.false)) c.rule-step.ensures c.if-step-ge-ODD.false (here_ascii _ _ _ _ _ c.requires.cached.ascii (omega arith) c.if-a-lt128.true refl)

-- any other character
found : (c : goal.Joined-a-lt224)
    → let a = c.args in
    FoundAt a.index.now a.cells.now a.text.now c.loop-at.at c.if-a-lt224.traits.1 c.if-a-lt224.traits.0
found c =
    elim c.if-a-lt224.branch [
      | then-a-lt224 w ↦ rw w.traits-is w.known.ensures
      | else-a-lt224+then-a-lt240 w ↦ rw w.traits-is w.known-then-a-lt240.ensures
      | else-a-lt224+else-a-lt240 w ↦ rw w.traits-is w.known-else-a-lt240.ensures
    ]

more : (c : goal.Else-step-ge-ODD-2)
    → let a = c.args in
    let l = c.loop-at in
    let t = c.if-a-lt224.traits in
    FoundAt a.index.now a.cells.now a.text.now l.at t.1 t.0 →
    Stepping a.image.now a.text.now a.done a.run.mark a.run.refused (length a.starts.now) a.run.at (a.done + (a.run.count - a.done)) l.starts t.0 c.rule-step-in-loop-at.result l.k l.at t.1
more c f = steps_known c.recall.ensures c.loop-at.invariant (omega (arith, c.if-starts-k.false)) (omega (arith, four_bytes c.loop-at-test.true c.known_end-end.ensures)) c.requires.cached f c.rule-step-in-loop-at.ensures c.if-step-ge-ODD-2.false

pub bounds-text-at : goal.bounds-text-at
bounds-text-at c = omega (arith, four_bytes c.loop-at-test.true c.known_end-end.ensures)

-- four characters of ASCII
taken : (c : goal.Then-four-lt-ODD) → FourSteps c.args.cells.now c.args.text.now c.loop-at.at c.loop-at.row c.four_steps-four.result
taken c = c.four_steps-four.ensures c.if-four-lt-ODD.true

pub four_steps-four-requires : goal.four_steps-four-requires
four_steps-four-requires c = record { small_cells = small_cells c.requires.cached.ascii c.recall.ensures; row_bound = (c.loop-at.invariant.small, four_bytes c.loop-at-test.true c.known_end-end.ensures, c.if-a-lt128.true) }

pub put_four-k-requires : goal.put_four-k-requires
put_four-k-requires c = record { small_cells = small_cells c.requires.cached.ascii c.recall.ensures; four_at = record { number = _; steps = taken (goal.at.put_four-k-requires c).Then-four-lt-ODD }; row_bound = (c.loop-at.invariant.small, four_bytes c.loop-at-test.true c.known_end-end.ensures, c.loop-at.invariant.fits, omega (arith, c.loop-at.invariant.fits, counting_few c.loop-at.invariant.counting), omega (arith, c.if-starts-k.false)) }

pub overflow_add-last : goal.overflow_add-last
overflow_add-last c = omega (arith, four_bytes c.loop-at-test.true c.known_end-end.ensures)

pub bounds-text-last : goal.bounds-text-last
bounds-text-last c = omega (arith, four_bytes c.loop-at-test.true c.known_end-end.ensures)

pub ascii_cell-row-requires : goal.ascii_cell-row-requires
ascii_cell-row-requires c = (small_cells c.requires.cached.ascii c.recall.ensures, (taken (goal.at.ascii_cell-row-requires c).Then-four-lt-ODD).fourth)

pub overflow_add-at : goal.overflow_add-at
overflow_add-at c = omega (arith, four_bytes c.loop-at-test.true c.known_end-end.ensures)

pub loop-at-smaller-then-four-lt-ODD : goal.loop-at-smaller-then-four-lt-ODD
loop-at-smaller-then-four-lt-ODD c = omega (arith, four_bytes c.loop-at-test.true c.known_end-end.ensures)

pub loop-at-preserved-then-four-lt-ODD : goal.loop-at-preserved-then-four-lt-ODD
loop-at-preserved-then-four-lt-ODD c = four_walk c.requires.cached.ascii c.recall.ensures c.loop-at.invariant (omega (arith, c.if-starts-k.false)) (taken (goal.at.loop-at-preserved-then-four-lt-ODD c).Then-four-lt-ODD) (four_bytes c.loop-at-test.true c.known_end-end.ensures) _ c.put_four-k.ensures.1 _ _ c.put_four-k.ensures.0 c.ascii_cell-row.ensures.0

-- one
pub bounds-cells-a : goal.bounds-cells-a
bounds-cells-a c = omega (arith, c.requires.cached.ascii.long, c.if-a-lt128.true)

pub rule-step-requires : goal.rule-step-requires
rule-step-requires c =
    let b = four_bytes c.loop-at-test.true c.known_end-end.ensures in
    let h = here_ascii c.args.image.now c.args.text.now c.args.cells.now c.loop-at.at (cell_for c.args.cells.now c.args.text.now c.loop-at.at) c.requires.cached.ascii (omega arith) c.if-a-lt128.true refl in
    (omega (arith, c.loop-at.invariant.small), here_small c.recall.ensures h)

pub start_at-requires : goal.start_at-requires
start_at-requires c = let r = ascii c in (omega arith, r.small)

pub overflow_add-starts : goal.overflow_add-starts
overflow_add-starts c = let r = ascii (goal.at.overflow_add-starts c).Else-step-ge-ODD in omega arith

pub offset_bounds-starts-k : goal.offset_bounds-starts-k
offset_bounds-starts-k c = let r = ascii (goal.at.offset_bounds-starts-k c).Else-step-ge-ODD in omega arith

pub bounds-starts-k : goal.bounds-starts-k
bounds-starts-k c = (ascii (goal.at.bounds-starts-k c).Else-step-ge-ODD).place

pub overflow_add-at-then-a-lt128 : goal.overflow_add-at-then-a-lt128
overflow_add-at-then-a-lt128 c = let r = ascii (goal.at.overflow_add-at-then-a-lt128 c).Else-step-ge-ODD in omega arith

pub loop-at-smaller-then-a-lt128 : goal.loop-at-smaller-then-a-lt128
loop-at-smaller-then-a-lt128 c = let r = ascii (goal.at.loop-at-smaller-then-a-lt128 c).Else-step-ge-ODD in omega arith

pub loop-at-preserved-then-a-lt128 : goal.loop-at-preserved-then-a-lt128
loop-at-preserved-then-a-lt128 c = (ascii (goal.at.loop-at-preserved-then-a-lt128 c).Else-step-ge-ODD).next _ c.start_at.ensures

-- more
pub rule-step-requires-in-loop-at : goal.rule-step-requires-in-loop-at
rule-step-requires-in-loop-at c = (omega (arith, c.loop-at.invariant.small), (found c).small)

pub start_at-requires-in-loop-at : goal.start_at-requires-in-loop-at
start_at-requires-in-loop-at c = let r = more c (found (goal.at.start_at-requires-in-loop-at c).Joined-a-lt224) in (omega arith, r.small)

pub overflow_add-starts-in-loop-at : goal.overflow_add-starts-in-loop-at
overflow_add-starts-in-loop-at c = let r = more (goal.at.overflow_add-starts-in-loop-at c).Else-step-ge-ODD-2 (found (goal.at.overflow_add-starts-in-loop-at c).Joined-a-lt224) in omega arith

pub offset_bounds-starts-k-in-loop-at : goal.offset_bounds-starts-k-in-loop-at
offset_bounds-starts-k-in-loop-at c = let r = more (goal.at.offset_bounds-starts-k-in-loop-at c).Else-step-ge-ODD-2 (found (goal.at.offset_bounds-starts-k-in-loop-at c).Joined-a-lt224) in omega arith

pub bounds-starts-k-in-loop-at : goal.bounds-starts-k-in-loop-at
bounds-starts-k-in-loop-at c = (more (goal.at.bounds-starts-k-in-loop-at c).Else-step-ge-ODD-2 (found (goal.at.bounds-starts-k-in-loop-at c).Joined-a-lt224)).place

pub overflow_add-k-in-loop-at : goal.overflow_add-k-in-loop-at
overflow_add-k-in-loop-at c = let r = more (goal.at.overflow_add-k-in-loop-at c).Else-step-ge-ODD-2 (found (goal.at.overflow_add-k-in-loop-at c).Joined-a-lt224) in omega arith

pub overflow_add-at-in-loop-at : goal.overflow_add-at-in-loop-at
overflow_add-at-in-loop-at c = let r = more (goal.at.overflow_add-at-in-loop-at c).Else-step-ge-ODD-2 (found (goal.at.overflow_add-at-in-loop-at c).Joined-a-lt224) in omega arith

pub loop-at-smaller : goal.loop-at-smaller
loop-at-smaller c = let r = more (goal.at.loop-at-smaller c).Else-step-ge-ODD-2 (found (goal.at.loop-at-smaller c).Joined-a-lt224) in omega arith

pub loop-at-preserved : goal.loop-at-preserved
loop-at-preserved c = (more (goal.at.loop-at-preserved c).Else-step-ge-ODD-2 (found (goal.at.loop-at-preserved c).Joined-a-lt224)).next _ c.start_at-in-loop-at.ensures

pub rule-requires : goal.rule-requires
rule-requires c = (omega arith, c.loop-at.invariant.small)

pub overflow_cast-result : goal.overflow_cast-result
overflow_cast-result c = omega (arith, c.rule.ensures ∙ rule_state _, c.loop-at.invariant.counting.less)

pub overflow_add-result : goal.overflow_add-result
overflow_add-result c = omega (arith, c.loop-at.invariant.fits, counting_few c.loop-at.invariant.counting)

pub shape_of-starts : goal.shape_of-starts
shape_of-starts c = c.loop-at.invariant.long

pub returns : goal.returns
returns c = (walk_ends _ _ _ c.loop-at.invariant (c.rule.ensures ∙ rule_state _) c.requires.marking.counting.memo, c.loop-at.invariant.on, omega (arith, c.loop-at.invariant.more, c.requires.marking.from), refl, c.loop-at.invariant.long)
