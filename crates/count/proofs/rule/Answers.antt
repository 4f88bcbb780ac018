-- `count::rule` meets its contract: the table holds the rules. Assumes nothing.
use Rattle.count.proofs.RuleLaws.{rule_at}
use Rattle.count.proofs.rule.Goals as goal

pub returns : goal.returns
returns c = rule_at _ _ c.requires.0 c.requires.1
