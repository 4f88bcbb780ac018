-- `turns::end_first` meets its contract. Assumes nothing.
use Prim.Native.Nat.{ℕ}
use mathlib.Core.Path.{ap, ◌∙◌}
use native.Mathlib.Omega.{arith}
use Rattle.turns.specs.declared.First.TheVariants.{Token}
use Rattle.turns.specs.Turns.{nothing, waits, phase_named}
use Rattle.turns.proofs.TurnLaws.{phase_under, phase_waits}
use Rattle.turns.proofs.FirstTokenLaws.{first_by_lem}
use Rattle.turns.proofs.end_first.Goals as goal

pub returns-in-0 : goal.returns-in-0
returns-in-0 c = first_by_lem _ _ _ nothing (ap phase_named c.in-0.is)

pub returns-in-1-to-5 : goal.returns-in-1-to-5
returns-in-1-to-5 c = let p = phase_under c.args.state (λ z. omega arith) (omega arith) in ap (λ (k : ℕ). Token k c.args.at) p.2 ∙ first_by_lem _ _ _ _ p.1

pub returns-in_default : goal.returns-in_default
returns-in_default c = first_by_lem _ _ _ waits (phase_waits _ (omega arith))
