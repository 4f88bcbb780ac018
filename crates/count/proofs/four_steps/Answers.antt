-- `count::four_steps` meets its contract. Assumes nothing.
use mathlib.Core.Path.{refl}
use native.Mathlib.Omega.{arith}
use Rattle.count.proofs.FourLaws.{rule_same, rule_most}
use Rattle.count.proofs.four_steps.Goals as goal

pub overflow_add-result : goal.overflow_add-result
overflow_add-result c = omega (arith, rule_most _ c.requires.row_bound.0 c.rule.ensures, rule_most _ c.ascii_cell-first.ensures.1 c.rule-2.ensures)

pub overflow_add-result-2 : goal.overflow_add-result-2
overflow_add-result-2 c = omega (arith, rule_most _ c.requires.row_bound.0 c.rule.ensures, rule_most _ c.ascii_cell-first.ensures.1 c.rule-2.ensures, rule_most _ c.ascii_cell-second.ensures.1 c.rule-3.ensures)

pub overflow_add-result-3 : goal.overflow_add-result-3
overflow_add-result-3 c = omega (arith, rule_most _ c.requires.row_bound.0 c.rule.ensures, rule_most _ c.ascii_cell-first.ensures.1 c.rule-2.ensures, rule_most _ c.ascii_cell-second.ensures.1 c.rule-3.ensures, rule_most _ c.ascii_cell-third.ensures.1 c.rule-4.ensures)

pub returns : goal.returns
returns c l =
    let n0 = rule_same c.requires.row_bound.0 c.rule.ensures refl c.ascii_cell-first.ensures.0 in
    let n1 = rule_same c.ascii_cell-first.ensures.1 c.rule-2.ensures c.ascii_cell-first.ensures.0 c.ascii_cell-second.ensures.0 in
    let n2 = rule_same c.ascii_cell-second.ensures.1 c.rule-3.ensures c.ascii_cell-second.ensures.0 c.ascii_cell-third.ensures.0 in
    let n3 = rule_same c.ascii_cell-third.ensures.1 c.rule-4.ensures c.ascii_cell-third.ensures.0 c.ascii_cell-fourth.ensures.0 in
    record {
      first = c.requires.row_bound.2;
      second = c.if-b-ge128.false;
      third = c.if-c-ge128.false;
      fourth = c.if-d-ge128.false;
      known = l;
      steps = omega (arith, n0, n1, n2, n3);
    }
