-- `count::run_count` meets its contract. Assumes nothing.
use Prim.Native.Nat.{ℕ, ◌+◌, ◌<◌}
use mathlib.Core.Path.{◌≡◌, refl, sym, ◌∙◌}
use native.Mathlib.Omega.{arith}
use borrow.Author.Rules.{rules}
use Rattle.turns.proofs.ReachLaws.{here_small}
use Rattle.blocks.specs.Blocks.{FoundAt}
use Rattle.count.specs.Rules.{rule_for}
use Rattle.count.specs.Four.{cell_for, FourSteps}
use Rattle.count.proofs.CountLaws.{counting_same}
use Rattle.count.proofs.RuleLaws.{rule_state}
use Rattle.count.proofs.KnownLaws.{four_bytes, here_ascii, Ran, ran, ran_known}
use Rattle.count.proofs.FourLaws.{small_cells, RanFour, ran_four}
use Rattle.count.proofs.run_count.Goals as goal
use Rattle.count.proofs.run_count.Goals.{Else-step-ge-ODD, In-loop-at, Then-four-lt-ODD}

pub loop-at-init : goal.loop-at-init
loop-at-init c = record { small = c.requires.row_bound.0; start = c.requires.counting_as.start; counting = counting_same c.requires.counting_as.counting (sym c.requires.row_bound.1) refl refl refl; on = omega arith }

pub bounds-text-at : goal.bounds-text-at
bounds-text-at c = omega (arith, four_bytes c.loop-at-test.true c.known_end-end.ensures)

-- four characters of ASCII
taken : (c : goal.Then-four-lt-ODD)
    → let a = c.args in
    let l = c.loop-at in
    FourSteps a.cells.now a.text.now l.at l.row c.four_steps-four.result
taken c = c.four_steps-four.ensures c.if-four-lt-ODD.true

took : (c : goal.Then-four-lt-ODD)
    → let a = c.args in
    let l = c.loop-at in
    RanFour a.image.now a.text.now a.run.mark a.run.refused a.run.at (cell_for a.cells.now a.text.now (l.at + 3)) c.four_steps-four.result l.count l.at
took c = ran_four c.requires.cached.ascii c.recall.ensures c.loop-at.invariant (taken c) (four_bytes c.loop-at-test.true c.known_end-end.ensures)

pub four_steps-four-requires : goal.four_steps-four-requires
four_steps-four-requires c = record { small_cells = small_cells c.requires.cached.ascii c.recall.ensures; row_bound = (c.loop-at.invariant.small, four_bytes c.loop-at-test.true c.known_end-end.ensures, c.if-a-lt128.true) }

pub overflow_add-count : goal.overflow_add-count
overflow_add-count c = omega (arith, (took c).few)

pub overflow_add-last : goal.overflow_add-last
overflow_add-last c = omega (arith, four_bytes c.loop-at-test.true c.known_end-end.ensures)

pub bounds-text-last : goal.bounds-text-last
bounds-text-last c = omega (arith, four_bytes c.loop-at-test.true c.known_end-end.ensures)

pub bounds-cells-d : goal.bounds-cells-d
bounds-cells-d c = omega (arith, c.requires.cached.ascii.long, (taken (goal.at.bounds-cells-d c).Then-four-lt-ODD).fourth)

pub overflow_add-at : goal.overflow_add-at
overflow_add-at c = omega (arith, four_bytes c.loop-at-test.true c.known_end-end.ensures)

pub loop-at-smaller-then-four-lt-ODD : goal.loop-at-smaller-then-four-lt-ODD
loop-at-smaller-then-four-lt-ODD c = omega (arith, four_bytes c.loop-at-test.true c.known_end-end.ensures)

pub loop-at-preserved-then-four-lt-ODD : goal.loop-at-preserved-then-four-lt-ODD
loop-at-preserved-then-four-lt-ODD c = (took (goal.at.loop-at-preserved-then-four-lt-ODD c).Then-four-lt-ODD).next

-- one
pub bounds-cells-a : goal.bounds-cells-a
bounds-cells-a c = omega (arith, c.requires.cached.ascii.long, c.if-a-lt128.true)

pub rule-step-requires : goal.rule-step-requires
rule-step-requires c =
    let b = four_bytes c.loop-at-test.true c.known_end-end.ensures in
    let h = here_ascii c.args.image.now c.args.text.now c.args.cells.now c.loop-at.at (cell_for c.args.cells.now c.args.text.now c.loop-at.at) c.requires.cached.ascii (omega arith) c.if-a-lt128.true refl in
    (omega (arith, c.loop-at.invariant.small), here_small c.recall.ensures h)

once : (c : goal.Else-step-ge-ODD)
    → let a = c.args in
    let l = c.loop-at in
    Ran a.image.now a.text.now a.run.mark a.run.refused a.run.at (cell_for a.cells.now a.text.now l.at) c.rule-step.result l.count l.at 1
once c =
    let b = four_bytes c.loop-at-test.true c.known_end-end.ensures in
    ran c.recall.ensures c.loop-at.invariant (omega arith) c.rule-step.ensures c.if-step-ge-ODD.false (here_ascii _ _ _ _ _ c.requires.cached.ascii (omega arith) c.if-a-lt128.true refl)

pub overflow_add-count-then-a-lt128 : goal.overflow_add-count-then-a-lt128
overflow_add-count-then-a-lt128 c = omega (arith, (once c).few)

pub overflow_add-at-then-a-lt128 : goal.overflow_add-at-then-a-lt128
overflow_add-at-then-a-lt128 c = omega (arith, (once c).within)

pub loop-at-smaller-then-a-lt128 : goal.loop-at-smaller-then-a-lt128
loop-at-smaller-then-a-lt128 c = let r = once c in omega arith

pub loop-at-preserved-then-a-lt128 : goal.loop-at-preserved-then-a-lt128
loop-at-preserved-then-a-lt128 c = (once c).next

-- more
known : {t n len : ℕ} (c : goal.In-loop-at)
    → let a = c.args in
    let l = c.loop-at in
    FoundAt a.index.now a.cells.now a.text.now l.at len t → n ≡ rule_for l.row t → n < 128 → Ran a.image.now a.text.now a.run.mark a.run.refused a.run.at t n l.count l.at len
known c f e l = ran_known c.recall.ensures c.loop-at.invariant (omega (arith, four_bytes c.loop-at-test.true c.known_end-end.ensures)) c.requires.cached f e l

pub known-traits-requires : goal.known-traits-requires
known-traits-requires c = record { fits = (c.requires.cached.fits, c.if-index-lt-BLOCKS.false); at_in_bounds = search rules }

pub rule-step-requires-then-a-lt224 : goal.rule-step-requires-then-a-lt224
rule-step-requires-then-a-lt224 c = (omega (arith, c.loop-at.invariant.small), c.known-traits.ensures.small)

pub overflow_add-count-then-a-lt224 : goal.overflow_add-count-then-a-lt224
overflow_add-count-then-a-lt224 c = omega (arith, (known (goal.at.overflow_add-count-then-a-lt224 c).In-loop-at c.known-traits.ensures c.rule-step-then-a-lt224.ensures c.if-step-ge-ODD-2.false).few)

pub overflow_add-at-then-a-lt224 : goal.overflow_add-at-then-a-lt224
overflow_add-at-then-a-lt224 c = omega (arith, (known (goal.at.overflow_add-at-then-a-lt224 c).In-loop-at c.known-traits.ensures c.rule-step-then-a-lt224.ensures c.if-step-ge-ODD-2.false).within)

pub loop-at-smaller-then-a-lt224 : goal.loop-at-smaller-then-a-lt224
loop-at-smaller-then-a-lt224 c = let r = known (goal.at.loop-at-smaller-then-a-lt224 c).In-loop-at c.known-traits.ensures c.rule-step-then-a-lt224.ensures c.if-step-ge-ODD-2.false in omega arith

pub loop-at-preserved-then-a-lt224 : goal.loop-at-preserved-then-a-lt224
loop-at-preserved-then-a-lt224 c = (known (goal.at.loop-at-preserved-then-a-lt224 c).In-loop-at c.known-traits.ensures c.rule-step-then-a-lt224.ensures c.if-step-ge-ODD-2.false).next

pub known-traits-requires-then-a-lt240 : goal.known-traits-requires-then-a-lt240
known-traits-requires-then-a-lt240 c = record { fits = (c.requires.cached.fits, c.if-index-lt-BLOCKS.false); at_in_bounds = search rules }

pub rule-step-requires-then-a-lt240 : goal.rule-step-requires-then-a-lt240
rule-step-requires-then-a-lt240 c = (omega (arith, c.loop-at.invariant.small), c.known-traits-then-a-lt240.ensures.small)

pub overflow_add-count-then-a-lt240 : goal.overflow_add-count-then-a-lt240
overflow_add-count-then-a-lt240 c = omega (arith, (known (goal.at.overflow_add-count-then-a-lt240 c).In-loop-at c.known-traits-then-a-lt240.ensures c.rule-step-then-a-lt240.ensures c.if-step-ge-ODD-3.false).few)

pub overflow_add-at-then-a-lt240 : goal.overflow_add-at-then-a-lt240
overflow_add-at-then-a-lt240 c = omega (arith, (known (goal.at.overflow_add-at-then-a-lt240 c).In-loop-at c.known-traits-then-a-lt240.ensures c.rule-step-then-a-lt240.ensures c.if-step-ge-ODD-3.false).within)

pub loop-at-smaller-then-a-lt240 : goal.loop-at-smaller-then-a-lt240
loop-at-smaller-then-a-lt240 c = let r = known (goal.at.loop-at-smaller-then-a-lt240 c).In-loop-at c.known-traits-then-a-lt240.ensures c.rule-step-then-a-lt240.ensures c.if-step-ge-ODD-3.false in omega arith

pub loop-at-preserved-then-a-lt240 : goal.loop-at-preserved-then-a-lt240
loop-at-preserved-then-a-lt240 c = (known (goal.at.loop-at-preserved-then-a-lt240 c).In-loop-at c.known-traits-then-a-lt240.ensures c.rule-step-then-a-lt240.ensures c.if-step-ge-ODD-3.false).next

pub known-traits-requires-in-loop-at : goal.known-traits-requires-in-loop-at
known-traits-requires-in-loop-at c = record { fits = (c.requires.cached.fits, c.if-index-lt-BLOCKS.false); at_in_bounds = search rules }

pub rule-step-requires-in-loop-at : goal.rule-step-requires-in-loop-at
rule-step-requires-in-loop-at c = (omega (arith, c.loop-at.invariant.small), c.known-traits-in-loop-at.ensures.small)

pub overflow_add-count-in-loop-at : goal.overflow_add-count-in-loop-at
overflow_add-count-in-loop-at c = omega (arith, (known (goal.at.overflow_add-count-in-loop-at c).In-loop-at c.known-traits-in-loop-at.ensures c.rule-step-in-loop-at.ensures c.if-step-ge-ODD-4.false).few)

pub overflow_add-at-in-loop-at : goal.overflow_add-at-in-loop-at
overflow_add-at-in-loop-at c = omega (arith, (known (goal.at.overflow_add-at-in-loop-at c).In-loop-at c.known-traits-in-loop-at.ensures c.rule-step-in-loop-at.ensures c.if-step-ge-ODD-4.false).within)

pub loop-at-smaller : goal.loop-at-smaller
loop-at-smaller c = let r = known (goal.at.loop-at-smaller c).In-loop-at c.known-traits-in-loop-at.ensures c.rule-step-in-loop-at.ensures c.if-step-ge-ODD-4.false in omega arith

pub loop-at-preserved : goal.loop-at-preserved
loop-at-preserved c = (known (goal.at.loop-at-preserved c).In-loop-at c.known-traits-in-loop-at.ensures c.rule-step-in-loop-at.ensures c.if-step-ge-ODD-4.false).next

pub rule-requires : goal.rule-requires
rule-requires c = (omega arith, c.loop-at.invariant.small)

pub overflow_cast-result : goal.overflow_cast-result
overflow_cast-result c = omega (arith, c.rule.ensures ∙ rule_state _, c.loop-at.invariant.counting.less)

pub returns : goal.returns
returns c = (record { start = c.loop-at.invariant.start; counting = counting_same c.loop-at.invariant.counting (c.rule.ensures ∙ rule_state _) refl refl refl; memo = c.requires.counting_as.memo }, c.loop-at.invariant.on, refl)
