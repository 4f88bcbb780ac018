-- What a call gives: a value, or a refusal (docs/RULES.md, "Named refusals").
use Rattle.std.specs.Prelude.{Bool, true, false}
use Rattle.std.proofs.Math.Option.{Option, none, some}
use Rattle.refusal.specs.declared.Refusal.{Refusal}

pub data Outcome (T : Type 0) : Type 0 where
  given : T → Outcome T
  refused : Refusal → Outcome T

-- the refusal where the test holds
abbrev pub refused_if : Bool → Refusal → Option Refusal
refused_if true r = some r
refused_if false r = none

-- the first refusal, if there is one; else the second
abbrev pub or_else : Option Refusal → Option Refusal → Option Refusal
or_else (some r) o = some r
or_else none o = o

module _ {T : Type 0} where
  -- the refusal, if there is one; else the outcome
  abbrev pub unless : Option Refusal → Outcome T → Outcome T
  unless none o = o
  unless (some r) o = refused r

  abbrev pub outcome_map : {S : Type 0} → (T → S) → Outcome T → Outcome S
  outcome_map f (given x) = given (f x)
  outcome_map f (refused r) = refused r
