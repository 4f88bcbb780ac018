-- `utf8::measure_head` meets its contract: each arm is what the lead asks for. Assumes nothing.
use mathlib.Core.List.{[], ◌∷◌}
use mathlib.Core.Path.{refl, ◌∙◌}
use native.Mathlib.Omega.{arith}
use Rattle.utf8.proofs.LeadLaws.{lead_le, no_length, length_asked}
use Rattle.utf8.proofs.measure_head.Goals as goal

pub returns-in-0 : goal.returns-in-0
returns-in-0 c = no_length _ _ c.read_lead-lead.ensures c.requires c.in-0.is

pub returns-in-1 : goal.returns-in-1
returns-in-1 c = length_asked _ _ c.read_lead-lead.ensures c.requires [] c.in-1.is refl

pub returns-in-2 : goal.returns-in-2
returns-in-2 c = c.measure_row.ensures ∙ length_asked _ _ c.read_lead-lead.ensures c.requires (_ ∷ []) c.in-2.is refl

pub returns-in-3 : goal.returns-in-3
returns-in-3 c = c.measure_row-in-3.ensures ∙ length_asked _ _ c.read_lead-lead.ensures c.requires (_ ∷ _ ∷ []) c.in-3.is refl

pub returns-in_default : goal.returns-in_default
returns-in_default c =
    c.measure_row-in_default.ensures
    ∙ length_asked _ _ c.read_lead-lead.ensures c.requires (_ ∷ _ ∷ _ ∷ []) (omega (arith, lead_le _ c.read_lead-lead.ensures)) refl
