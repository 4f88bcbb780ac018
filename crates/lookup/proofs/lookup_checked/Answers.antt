-- `lookup::lookup_checked` meets its contract. Assumes nothing.
use mathlib.Core.Path.{sym, ◌∙◌}
use Rattle.lookup.proofs.LookupLaws.{scalar_none, searched}
use Rattle.lookup.proofs.lookup_checked.Goals as goal

pub returns-then-not-is_scalar : goal.returns-then-not-is_scalar
returns-then-not-is_scalar c = sym (scalar_none _ _ c.recall.ensures (sym c.is_scalar.ensures ∙ c.if-not-is_scalar.true))

pub returns : goal.returns
returns c =
    searched _ _ c.recall.ensures _ _ _ (sym c.is_scalar.ensures ∙ c.if-not-is_scalar.false) c.find-role.ensures c.find-probe.ensures c.after_role.ensures
