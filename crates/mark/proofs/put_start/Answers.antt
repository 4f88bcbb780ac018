-- `mark::put_start` meets its contract. Assumes nothing.
use Prim.Native.Nat.{ℕ, ◌+◌, ◌*◌}
use mathlib.Core.Path.{ap, ◌∙◌}
use native.Mathlib.Omega.{arith}
use lib.ListN.{set}
use Rattle.count.proofs.RuleLaws.{rule_traits}
use Rattle.mark.proofs.MarkLaws.{traits_small}
use Rattle.mark.proofs.put_start.Goals as goal

pub start_at-requires : goal.start_at-requires
start_at-requires c = (c.requires.1, omega (arith, c.rule-traits.ensures ∙ rule_traits _, traits_small _ c.requires.2))

pub returns : goal.returns
returns c = ap (set c.args.starts.now c.args.i) (c.start_at.ensures ∙ ap (λ (t : ℕ). 16 * c.args.at + t) (c.rule-traits.ensures ∙ rule_traits _))
