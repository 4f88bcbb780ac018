-- `count::advance` meets its contract, by the character's turn. Assumes nothing.
use mathlib.Core.Path.{refl, ap, ◌∙◌}
use native.Mathlib.Omega.{arith}
use Rattle.std.specs.Prelude.{Err}
use Rattle.turns.proofs.ReachLaws.{here_small}
use Rattle.count.proofs.RuleLaws.{rule_after, rule_waits}
use Rattle.count.proofs.CountLaws.{counts_stop, counting_turn, counting_waits}
use Rattle.count.proofs.LookLaws.{advanced_turn, advanced_waits, advanced_beside, advanced_few}
use Rattle.count.proofs.advance.Goals as goal

pub overflow_add-result : goal.overflow_add-result
overflow_add-result c = omega (arith, advanced_few (advanced_turn _ c.requires.counting_as.counting.less c.requires.count_look c.requires.memo_of.0 _ refl (omega arith)) c.requires.counting_as)

pub rule-requires : goal.rule-requires
rule-requires c = (omega arith, here_small c.requires.count_look.accepted c.requires.count_look.here)

pub rule-requires-in-0-to-1 : goal.rule-requires-in-0-to-1
rule-requires-in-0-to-1 c = (omega arith, here_small c.requires.count_look.accepted c.requires.count_look.here)

pub overflow_cast-result : goal.overflow_cast-result
overflow_cast-result c = omega (arith, (counting_waits c.requires.counting_as.counting c.requires.count_look c.in-2.is _ (c.rule.ensures ∙ rule_waits _)).less)

pub overflow_cast-result-in-0-to-1 : goal.overflow_cast-result-in-0-to-1
overflow_cast-result-in-0-to-1 c = omega (arith, (counting_turn c.requires.counting_as.counting c.requires.count_look (omega arith) _ (c.rule-in-0-to-1.ensures ∙ rule_after _)).less)

pub overflow_add-result-in-3-to-7 : goal.overflow_add-result-in-3-to-7
overflow_add-result-in-3-to-7 c =
    omega (
      arith,
      advanced_few (advanced_beside _ c.requires.counting_as.counting.less c.requires.count_look c.requires.memo_of.0 _ _ _ _ c.count_beside.ensures refl refl refl
          (omega (arith, c.requires.memo_of.1)) (omega arith)) c.requires.counting_as,
    )

pub returns-in-0-to-1 : goal.returns-in-0-to-1
returns-in-0-to-1 c = advanced_turn _ c.requires.counting_as.counting.less c.requires.count_look c.requires.memo_of.0 _ (c.rule-in-0-to-1.ensures ∙ rule_after _) (omega arith)

pub returns-in-2 : goal.returns-in-2
returns-in-2 c = advanced_waits _ c.requires.counting_as.counting.less c.requires.count_look c.requires.memo_of.0 _ (c.rule.ensures ∙ rule_waits _) c.in-2.is

pub returns-in-3-to-7 : goal.returns-in-3-to-7
returns-in-3-to-7 c =
    advanced_beside _ c.requires.counting_as.counting.less c.requires.count_look c.requires.memo_of.0 _ _ _ _ c.count_beside.ensures c.state_beside.ensures c.mark_beside-mark.ensures c.refused_beside.ensures
    (omega (arith, c.requires.memo_of.1)) (omega arith)

pub returns-in_default : goal.returns-in_default
returns-in_default c = ap Err c.refuse_at.ensures ∙ counts_stop c.requires.counting_as.counting c.requires.count_look (omega arith)
