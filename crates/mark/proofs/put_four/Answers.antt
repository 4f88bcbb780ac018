-- `mark::put_four` meets its contract. Assumes nothing.
use Prim.Native.Nat.{◌+◌}
use mathlib.Core.Path.{◌≡◌, refl}
use native.Mathlib.Omega.{arith}
use lib.ListN.{length-set}
use Rattle.count.proofs.FourLaws.{rule_same}
use Rattle.mark.specs.Marking.{count_one, count_two, count_three}
use Rattle.mark.proofs.MarkLaws.{four_few, put_same}
use Rattle.mark.proofs.put_four.Goals as goal

pub bounds-text-at : goal.bounds-text-at
bounds-text-at c = omega (arith, c.requires.row_bound.1, c.requires.row_bound.2)

pub ascii_cell-t0-requires : goal.ascii_cell-t0-requires
ascii_cell-t0-requires c = (c.requires.small_cells, c.requires.four_at.steps.first)

pub overflow_add-at : goal.overflow_add-at
overflow_add-at c = omega (arith, c.requires.row_bound.1, c.requires.row_bound.2)

pub bounds-text-at-2 : goal.bounds-text-at-2
bounds-text-at-2 c = omega (arith, c.requires.row_bound.1, c.requires.row_bound.2)

pub ascii_cell-t1-requires : goal.ascii_cell-t1-requires
ascii_cell-t1-requires c = (c.requires.small_cells, c.requires.four_at.steps.second)

pub overflow_add-at-2 : goal.overflow_add-at-2
overflow_add-at-2 c = omega (arith, c.requires.row_bound.1, c.requires.row_bound.2)

pub bounds-text-at-3 : goal.bounds-text-at-3
bounds-text-at-3 c = omega (arith, c.requires.row_bound.1, c.requires.row_bound.2)

pub ascii_cell-t2-requires : goal.ascii_cell-t2-requires
ascii_cell-t2-requires c = (c.requires.small_cells, c.requires.four_at.steps.third)

pub overflow_add-at-3 : goal.overflow_add-at-3
overflow_add-at-3 c = omega (arith, c.requires.row_bound.1, c.requires.row_bound.2)

pub bounds-text-at-4 : goal.bounds-text-at-4
bounds-text-at-4 c = omega (arith, c.requires.row_bound.1, c.requires.row_bound.2)

pub ascii_cell-t3-requires : goal.ascii_cell-t3-requires
ascii_cell-t3-requires c = (c.requires.small_cells, c.requires.four_at.steps.fourth)

pub rule-requires : goal.rule-requires
rule-requires c = (omega (arith, c.requires.row_bound.0), c.ascii_cell-t0.ensures.1)

pub overflow_add-k1 : goal.overflow_add-k1
overflow_add-k1 c =
    let d = four_few c.requires.four_at.steps in
    let n0 = rule_same c.requires.row_bound.0 c.rule.ensures refl c.ascii_cell-t0.ensures.0 in
    omega (arith, n0, d.few0, c.requires.row_bound.3, c.requires.row_bound.4)

pub rule-requires-2 : goal.rule-requires-2
rule-requires-2 c = (omega (arith, c.ascii_cell-t0.ensures.1), c.ascii_cell-t1.ensures.1)

pub overflow_add-k2 : goal.overflow_add-k2
overflow_add-k2 c =
    let d = four_few c.requires.four_at.steps in
    let n0 = rule_same c.requires.row_bound.0 c.rule.ensures refl c.ascii_cell-t0.ensures.0 in
    let n1 = rule_same c.ascii_cell-t0.ensures.1 c.rule-2.ensures c.ascii_cell-t0.ensures.0 c.ascii_cell-t1.ensures.0 in
    omega (arith, n0, d.few0, n1, d.few1, c.requires.row_bound.3, c.requires.row_bound.4)

pub rule-requires-3 : goal.rule-requires-3
rule-requires-3 c = (omega (arith, c.ascii_cell-t1.ensures.1), c.ascii_cell-t2.ensures.1)

pub overflow_add-k3 : goal.overflow_add-k3
overflow_add-k3 c =
    let d = four_few c.requires.four_at.steps in
    let n0 = rule_same c.requires.row_bound.0 c.rule.ensures refl c.ascii_cell-t0.ensures.0 in
    let n1 = rule_same c.ascii_cell-t0.ensures.1 c.rule-2.ensures c.ascii_cell-t0.ensures.0 c.ascii_cell-t1.ensures.0 in
    let n2 = rule_same c.ascii_cell-t1.ensures.1 c.rule-3.ensures c.ascii_cell-t1.ensures.0 c.ascii_cell-t2.ensures.0 in
    omega (arith, n0, d.few0, n1, d.few1, n2, d.few2, c.requires.row_bound.3, c.requires.row_bound.4)

pub rule-requires-4 : goal.rule-requires-4
rule-requires-4 c = (omega (arith, c.ascii_cell-t2.ensures.1), c.ascii_cell-t3.ensures.1)

pub overflow_add-k4 : goal.overflow_add-k4
overflow_add-k4 c =
    let d = four_few c.requires.four_at.steps in
    let n0 = rule_same c.requires.row_bound.0 c.rule.ensures refl c.ascii_cell-t0.ensures.0 in
    let n1 = rule_same c.ascii_cell-t0.ensures.1 c.rule-2.ensures c.ascii_cell-t0.ensures.0 c.ascii_cell-t1.ensures.0 in
    let n2 = rule_same c.ascii_cell-t1.ensures.1 c.rule-3.ensures c.ascii_cell-t1.ensures.0 c.ascii_cell-t2.ensures.0 in
    let n3 = rule_same c.ascii_cell-t2.ensures.1 c.rule-4.ensures c.ascii_cell-t2.ensures.0 c.ascii_cell-t3.ensures.0 in
    omega (arith, n0, d.few0, n1, d.few1, n2, d.few2, n3, d.few3, c.requires.row_bound.3, c.requires.row_bound.4)

pub start_at-requires : goal.start_at-requires
start_at-requires c = (omega (arith, c.requires.row_bound.1, c.requires.row_bound.2), c.ascii_cell-t0.ensures.1)

pub overflow_add-starts : goal.overflow_add-starts
overflow_add-starts c = omega (arith, c.requires.row_bound.3, c.requires.row_bound.4)

pub offset_bounds-starts-k : goal.offset_bounds-starts-k
offset_bounds-starts-k c = omega (arith, c.requires.row_bound.3, c.requires.row_bound.4)

pub bounds-starts-k : goal.bounds-starts-k
bounds-starts-k c = omega (arith, c.requires.row_bound.3, c.requires.row_bound.4)

pub overflow_add-at-4 : goal.overflow_add-at-4
overflow_add-at-4 c = omega (arith, c.requires.row_bound.1, c.requires.row_bound.2)

pub start_at-requires-2 : goal.start_at-requires-2
start_at-requires-2 c = (omega (arith, c.requires.row_bound.1, c.requires.row_bound.2), c.ascii_cell-t1.ensures.1)

pub overflow_add-starts-2 : goal.overflow_add-starts-2
overflow_add-starts-2 c =
    let d = four_few c.requires.four_at.steps in
    let n0 = rule_same c.requires.row_bound.0 c.rule.ensures refl c.ascii_cell-t0.ensures.0 in
    omega (arith, n0, d.few0, c.requires.row_bound.3, c.requires.row_bound.4)

pub offset_bounds-starts-k1 : goal.offset_bounds-starts-k1
offset_bounds-starts-k1 c =
    let d = four_few c.requires.four_at.steps in
    let n0 = rule_same c.requires.row_bound.0 c.rule.ensures refl c.ascii_cell-t0.ensures.0 in
    omega (arith, n0, d.few0, c.requires.row_bound.3, c.requires.row_bound.4)

pub bounds-starts-k1 : goal.bounds-starts-k1
bounds-starts-k1 c =
    let d = four_few c.requires.four_at.steps in
    let n0 = rule_same c.requires.row_bound.0 c.rule.ensures refl c.ascii_cell-t0.ensures.0 in
    simp length-set (omega (arith, n0, d.few0, c.requires.row_bound.3, c.requires.row_bound.4))

pub overflow_add-at-5 : goal.overflow_add-at-5
overflow_add-at-5 c = omega (arith, c.requires.row_bound.1, c.requires.row_bound.2)

pub start_at-requires-3 : goal.start_at-requires-3
start_at-requires-3 c = (omega (arith, c.requires.row_bound.1, c.requires.row_bound.2), c.ascii_cell-t2.ensures.1)

pub overflow_add-starts-3 : goal.overflow_add-starts-3
overflow_add-starts-3 c =
    let d = four_few c.requires.four_at.steps in
    let n0 = rule_same c.requires.row_bound.0 c.rule.ensures refl c.ascii_cell-t0.ensures.0 in
    let n1 = rule_same c.ascii_cell-t0.ensures.1 c.rule-2.ensures c.ascii_cell-t0.ensures.0 c.ascii_cell-t1.ensures.0 in
    omega (arith, n0, d.few0, n1, d.few1, c.requires.row_bound.3, c.requires.row_bound.4)

pub offset_bounds-starts-k2 : goal.offset_bounds-starts-k2
offset_bounds-starts-k2 c =
    let d = four_few c.requires.four_at.steps in
    let n0 = rule_same c.requires.row_bound.0 c.rule.ensures refl c.ascii_cell-t0.ensures.0 in
    let n1 = rule_same c.ascii_cell-t0.ensures.1 c.rule-2.ensures c.ascii_cell-t0.ensures.0 c.ascii_cell-t1.ensures.0 in
    omega (arith, n0, d.few0, n1, d.few1, c.requires.row_bound.3, c.requires.row_bound.4)

pub bounds-starts-k2 : goal.bounds-starts-k2
bounds-starts-k2 c =
    let d = four_few c.requires.four_at.steps in
    let n0 = rule_same c.requires.row_bound.0 c.rule.ensures refl c.ascii_cell-t0.ensures.0 in
    let n1 = rule_same c.ascii_cell-t0.ensures.1 c.rule-2.ensures c.ascii_cell-t0.ensures.0 c.ascii_cell-t1.ensures.0 in
    simp length-set (omega (arith, n0, d.few0, n1, d.few1, c.requires.row_bound.3, c.requires.row_bound.4))

pub overflow_add-at-6 : goal.overflow_add-at-6
overflow_add-at-6 c = omega (arith, c.requires.row_bound.1, c.requires.row_bound.2)

pub start_at-requires-4 : goal.start_at-requires-4
start_at-requires-4 c = (omega (arith, c.requires.row_bound.1, c.requires.row_bound.2), c.ascii_cell-t3.ensures.1)

pub overflow_add-starts-4 : goal.overflow_add-starts-4
overflow_add-starts-4 c =
    let d = four_few c.requires.four_at.steps in
    let n0 = rule_same c.requires.row_bound.0 c.rule.ensures refl c.ascii_cell-t0.ensures.0 in
    let n1 = rule_same c.ascii_cell-t0.ensures.1 c.rule-2.ensures c.ascii_cell-t0.ensures.0 c.ascii_cell-t1.ensures.0 in
    let n2 = rule_same c.ascii_cell-t1.ensures.1 c.rule-3.ensures c.ascii_cell-t1.ensures.0 c.ascii_cell-t2.ensures.0 in
    omega (arith, n0, d.few0, n1, d.few1, n2, d.few2, c.requires.row_bound.3, c.requires.row_bound.4)

pub offset_bounds-starts-k3 : goal.offset_bounds-starts-k3
offset_bounds-starts-k3 c =
    let d = four_few c.requires.four_at.steps in
    let n0 = rule_same c.requires.row_bound.0 c.rule.ensures refl c.ascii_cell-t0.ensures.0 in
    let n1 = rule_same c.ascii_cell-t0.ensures.1 c.rule-2.ensures c.ascii_cell-t0.ensures.0 c.ascii_cell-t1.ensures.0 in
    let n2 = rule_same c.ascii_cell-t1.ensures.1 c.rule-3.ensures c.ascii_cell-t1.ensures.0 c.ascii_cell-t2.ensures.0 in
    omega (arith, n0, d.few0, n1, d.few1, n2, d.few2, c.requires.row_bound.3, c.requires.row_bound.4)

pub bounds-starts-k3 : goal.bounds-starts-k3
bounds-starts-k3 c =
    let d = four_few c.requires.four_at.steps in
    let n0 = rule_same c.requires.row_bound.0 c.rule.ensures refl c.ascii_cell-t0.ensures.0 in
    let n1 = rule_same c.ascii_cell-t0.ensures.1 c.rule-2.ensures c.ascii_cell-t0.ensures.0 c.ascii_cell-t1.ensures.0 in
    let n2 = rule_same c.ascii_cell-t1.ensures.1 c.rule-3.ensures c.ascii_cell-t1.ensures.0 c.ascii_cell-t2.ensures.0 in
    simp length-set (omega (arith, n0, d.few0, n1, d.few1, n2, d.few2, c.requires.row_bound.3, c.requires.row_bound.4))

pub shape_of-starts : goal.shape_of-starts
shape_of-starts c = simp length-set

pub returns : goal.returns
returns c =
    let n0 = rule_same c.requires.row_bound.0 c.rule.ensures refl c.ascii_cell-t0.ensures.0 in
    let n1 = rule_same c.ascii_cell-t0.ensures.1 c.rule-2.ensures c.ascii_cell-t0.ensures.0 c.ascii_cell-t1.ensures.0 in
    let n2 = rule_same c.ascii_cell-t1.ensures.1 c.rule-3.ensures c.ascii_cell-t1.ensures.0 c.ascii_cell-t2.ensures.0 in
    let n3 = rule_same c.ascii_cell-t2.ensures.1 c.rule-4.ensures c.ascii_cell-t2.ensures.0 c.ascii_cell-t3.ensures.0 in
    let s0 : c.args.starts.now ≡ c.args.starts.now = refl in
    let k0 : c.args.k ≡ c.args.k = refl in
    let k1 : c.args.k + c.rule.result ≡ count_one c.args.cells.now c.args.text.now c.args.at c.args.row c.args.k = omega (arith, n0) in
    let k2 : c.args.k + c.rule.result + c.rule-2.result ≡ count_two c.args.cells.now c.args.text.now c.args.at c.args.row c.args.k = omega (arith, n0, n1) in
    let k3 : c.args.k + c.rule.result + c.rule-2.result + c.rule-3.result ≡ count_three c.args.cells.now c.args.text.now c.args.at c.args.row c.args.k = omega (arith, n0, n1, n2) in
    (omega (arith, n0, n1, n2, n3), put_same c.args.cells.now c.args.text.now (c.args.at + 3) (put_same c.args.cells.now c.args.text.now (c.args.at + 2) (put_same c.args.cells.now c.args.text.now (c.args.at + 1) (put_same c.args.cells.now c.args.text.now c.args.at s0 k0 c.start_at.ensures c.ascii_cell-t0.ensures.0) k1 c.start_at-2.ensures c.ascii_cell-t1.ensures.0) k2 c.start_at-3.ensures c.ascii_cell-t2.ensures.0) k3 c.start_at-4.ensures c.ascii_cell-t3.ensures.0)
