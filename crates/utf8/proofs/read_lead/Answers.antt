-- `utf8::read_lead` meets its contract: each arm has the ranges of the row that its bounds on the byte are from, and between the rows there is
-- none. Assumes nothing.
use mathlib.Core.List.{[], ◌∷◌}
use mathlib.Core.Path.{refl, ap, ◌∙◌}
use native.Mathlib.Omega.{arith}
use Rattle.utf8.specs.declared.Lead.{Lead}
use Rattle.utf8.specs.Table.{◌to◌}
use Rattle.utf8.specs.Lead.{absent}
use Rattle.utf8.proofs.LeadLaws.{lead_at, no_lead_at}
use Rattle.utf8.proofs.read_lead.Goals as goal
use Rattle.utf8.proofs.read_lead.Goals.{in_default-via-then-b-lt194, in_default-via-else-b-lt194+else-b-lt224+else-b-lt237+else-b-lt240+else-b-lt244}

pub returns-in-224 : goal.returns-in-224
returns-in-224 c = rw (c.row.ensures, c.to.ensures, c.to-in-224.ensures) (lead_at 2 _ (0xA0 to 0xBF ∷ absent ∷ []) (omega arith, omega arith, refl))

pub returns-in-237 : goal.returns-in-237
returns-in-237 c = rw (c.row-in-237.ensures, c.to-in-237.ensures, c.to-in-237-2.ensures) (lead_at 4 _ (0x80 to 0x9F ∷ absent ∷ []) (omega arith, omega arith, refl))

pub returns-in-240 : goal.returns-in-240
returns-in-240 c =
    rw (c.row-in-240.ensures, c.to-in-240.ensures, c.to-in-240-2.ensures, c.to-in-240-3.ensures)
    (lead_at 6 _ (0x90 to 0xBF ∷ absent ∷ absent ∷ []) (omega arith, omega arith, refl))

pub returns-in-244 : goal.returns-in-244
returns-in-244 c =
    rw (c.row-in-244.ensures, c.to-in-244.ensures, c.to-in-244-2.ensures, c.to-in-244-3.ensures)
    (lead_at 8 _ (0x80 to 0x8F ∷ absent ∷ absent ∷ []) (omega arith, omega arith, refl))

pub returns-in-0-to-127 : goal.returns-in-0-to-127
returns-in-0-to-127 c = c.row-in-0-to-127.ensures ∙ lead_at 0 _ [] (omega arith, omega arith, refl)

pub returns-in-194-to-223 : goal.returns-in-194-to-223
returns-in-194-to-223 c =
    rw (c.row-in-194-to-223.ensures, c.to-in-194-to-223.ensures) (lead_at 1 _ (absent ∷ []) (omega arith, omega arith, refl))

pub returns-in-225-to-236 : goal.returns-in-225-to-236
returns-in-225-to-236 c =
    rw (c.row-in-225-to-236.ensures, c.to-in-225-to-236.ensures, c.to-in-225-to-236-2.ensures)
    (lead_at 3 _ (absent ∷ absent ∷ []) (omega arith, omega arith, refl))

pub returns-in-238-to-239 : goal.returns-in-238-to-239
returns-in-238-to-239 c =
    rw (c.row-in-238-to-239.ensures, c.to-in-238-to-239.ensures, c.to-in-238-to-239-2.ensures)
    (lead_at 5 _ (absent ∷ absent ∷ []) (omega arith, omega arith, refl))

pub returns-in-241-to-243 : goal.returns-in-241-to-243
returns-in-241-to-243 c =
    rw (c.row-in-241-to-243.ensures, c.to-in-241-to-243.ensures, c.to-in-241-to-243-2.ensures, c.to-in-241-to-243-3.ensures)
    (lead_at 7 _ (absent ∷ absent ∷ absent ∷ []) (omega arith, omega arith, refl))

pub returns-in_default : goal.returns-in_default
returns-in_default c =
    ap (λ (l : Lead). let m : Lead = record l { len = 0 } in m) c.row-in_default.ensures
    ∙ elim c.in_default.branch [
      | in_default-via-then-b-lt194 w ↦ no_lead_at 0x80 0xC1 _ refl (omega arith) (omega arith)
      | in_default-via-else-b-lt194+else-b-lt224+else-b-lt237+else-b-lt240+else-b-lt244 w ↦ no_lead_at 0xF5 0xFF _ refl (omega arith) (omega arith)
    ]
