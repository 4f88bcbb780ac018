-- `utf8::pack` meets its contract: each return is what the lead asks for, as far as the bytes before it fit. Assumes nothing.
use mathlib.Core.Bool.{true, false}
use mathlib.Core.List.{List, [], ◌∷◌}
use mathlib.Core.Logic.{◌≢◌}
use mathlib.Core.Path.{◌≡◌, refl, sym, ap, ◌∙◌}
use Prim.Native.Nat.{ℕ, suc, ◌-◌, ◌≤◌}
use native.Mathlib.Omega.{arith}
use borrow.Author.Tests.{eqb-true, eqb-false}
use lib.Dec.{eqb}
use lib.ListN.{length, get_or}
use Rattle.utf8.specs.declared.Lead.{Lead}
use Rattle.utf8.specs.Lead.{packed, lead_of, byte_fits}
use Rattle.utf8.proofs.LeadLaws.{Begun, begins, no_lead, next_in, next_out, whole, at_end, lead_le}
use Rattle.utf8.proofs.pack.Goals as goal

-- what is known after each byte that fits
module _ {s : List ℕ} {l : Lead} (led : l ≡ lead_of (get_or s 0 0)) (filled : eqb (length s) 0 ≡ false) where
  first : Begun s l [] 0
  first = begins s l led (omega (arith, eqb-false (length s) 0 filled))

  module _ (f : byte_fits l.second s 1 ≡ true) where
    second : Begun s l (l.second ∷ []) 1
    second = next_in first l.second f

    module _ (g : byte_fits l.third s 2 ≡ true) where
      third : Begun s l (l.second ∷ l.third ∷ []) 2
      third = next_in second l.third g

      fourth : byte_fits l.fourth s 3 ≡ true → Begun s l (l.second ∷ l.third ∷ l.fourth ∷ []) 3
      fourth h = next_in third l.fourth h

-- no length but four is left after the tests
four : (n : ℕ) → n ≤ 4 → n ≢ 0 → n ≢ 1 → n ≢ 2 → n ≢ 3 → n ≡ 4
four n h a b c d = omega arith

pub returns-then-is_empty : goal.returns-then-is_empty
returns-then-is_empty c = ap packed (at_end _ (eqb-true _ 0 (sym c.is_empty.ensures ∙ c.if-is_empty.true)))

pub returns-then-lead-eq0 : goal.returns-then-lead-eq0
returns-then-lead-eq0 c = no_lead (first c.read_lead-lead.ensures (sym c.is_empty.ensures ∙ c.if-is_empty.false)) c.if-lead-eq0.true

pub returns-then-lead-eq1 : goal.returns-then-lead-eq1
returns-then-lead-eq1 c = whole (first c.read_lead-lead.ensures (sym c.is_empty.ensures ∙ c.if-is_empty.false)) c.if-lead-eq1.true refl

pub returns-then-not-fits : goal.returns-then-not-fits
returns-then-not-fits c =
    next_out (first c.read_lead-lead.ensures (sym c.is_empty.ensures ∙ c.if-is_empty.false)) _ _ (suc (c.read_lead-lead.result.len - 2)) (omega arith) refl
    (sym c.fits.ensures ∙ c.if-not-fits.true)

pub bounds-s-1 : goal.bounds-s-1
bounds-s-1 c =
    let d = second c.read_lead-lead.ensures (sym c.is_empty.ensures ∙ c.if-is_empty.false) (sym c.fits.ensures ∙ c.if-not-fits.false) in
    omega (arith, d.within)

pub returns-then-lead-eq2 : goal.returns-then-lead-eq2
returns-then-lead-eq2 c =
    let d = second c.read_lead-lead.ensures (sym c.is_empty.ensures ∙ c.if-is_empty.false) (sym c.fits.ensures ∙ c.if-not-fits.false) in
    rw c.join.ensures (whole d c.if-lead-eq2.true refl)

pub returns-then-not-fits-2 : goal.returns-then-not-fits-2
returns-then-not-fits-2 c =
    let d = second c.read_lead-lead.ensures (sym c.is_empty.ensures ∙ c.if-is_empty.false) (sym c.fits.ensures ∙ c.if-not-fits.false) in
    next_out d _ _ (suc (suc (c.read_lead-lead.result.len - 3))) (omega arith) refl (sym c.fits-2.ensures ∙ c.if-not-fits-2.true)

pub bounds-s-2 : goal.bounds-s-2
bounds-s-2 c =
    let d =
    third c.read_lead-lead.ensures (sym c.is_empty.ensures ∙ c.if-is_empty.false) (sym c.fits.ensures ∙ c.if-not-fits.false)
    (sym c.fits-2.ensures ∙ c.if-not-fits-2.false)
    in
    omega (arith, d.within)

pub returns-then-lead-eq3 : goal.returns-then-lead-eq3
returns-then-lead-eq3 c =
    let d =
    third c.read_lead-lead.ensures (sym c.is_empty.ensures ∙ c.if-is_empty.false) (sym c.fits.ensures ∙ c.if-not-fits.false)
    (sym c.fits-2.ensures ∙ c.if-not-fits-2.false)
    in
    rw (c.join-then-lead-eq3-2.ensures, c.join-then-lead-eq3.ensures) (whole d c.if-lead-eq3.true refl)

pub returns-then-not-fits-3 : goal.returns-then-not-fits-3
returns-then-not-fits-3 c =
    let d =
    third c.read_lead-lead.ensures (sym c.is_empty.ensures ∙ c.if-is_empty.false) (sym c.fits.ensures ∙ c.if-not-fits.false)
    (sym c.fits-2.ensures ∙ c.if-not-fits-2.false)
    in
    let l = four _ (lead_le _ c.read_lead-lead.ensures) c.if-lead-eq0.false c.if-lead-eq1.false c.if-lead-eq2.false c.if-lead-eq3.false in
    next_out d _ _ 3 l refl (sym c.fits-3.ensures ∙ c.if-not-fits-3.true)

pub bounds-s-3 : goal.bounds-s-3
bounds-s-3 c =
    let d =
    fourth c.read_lead-lead.ensures (sym c.is_empty.ensures ∙ c.if-is_empty.false) (sym c.fits.ensures ∙ c.if-not-fits.false)
    (sym c.fits-2.ensures ∙ c.if-not-fits-2.false) (sym c.fits-3.ensures ∙ c.if-not-fits-3.false)
    in
    omega (arith, d.within)

pub returns : goal.returns
returns c =
    let d =
    fourth c.read_lead-lead.ensures (sym c.is_empty.ensures ∙ c.if-is_empty.false) (sym c.fits.ensures ∙ c.if-not-fits.false)
    (sym c.fits-2.ensures ∙ c.if-not-fits-2.false) (sym c.fits-3.ensures ∙ c.if-not-fits-3.false)
    in
    let l = four _ (lead_le _ c.read_lead-lead.ensures) c.if-lead-eq0.false c.if-lead-eq1.false c.if-lead-eq2.false c.if-lead-eq3.false in
    rw (c.join-4.ensures, c.join-3.ensures, c.join-2.ensures) (whole d l refl)
