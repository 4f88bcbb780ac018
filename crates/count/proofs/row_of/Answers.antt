-- `count::row_of` meets its contract, by the rules. Assumes nothing.
use mathlib.Core.Path.{◌≡◌, sym, ap, ◌∙◌}
use native.Mathlib.Omega.{arith}
use lib.ListN.{get_or}
use Rattle.count.specs.Steps.{row_state, state_rows}
use Rattle.count.proofs.RuleLaws.{rule_row}
use Rattle.count.proofs.StepLaws.{row_at}
use Rattle.count.proofs.row_of.Goals as goal

pub returns : goal.returns
returns c h =
    let e : c.rule.result ≡ get_or state_rows c.args.state 0 = c.rule.ensures ∙ rule_row _ in
    row_at c.args.state c.requires (omega (arith, e, h)) ∙ ap row_state (sym e)
