-- `utf8::measure_subpart` meets its contract: the bytes before the first that doesn't fit. Where the head is ill-formed no row ends before it.
-- Assumes nothing.
use Prim.Native.Nat.{ℕ, suc, ◌-◌, ◌≤◌}
use mathlib.Core.Bool.{Bool, true, false}
use mathlib.Core.List.{List, [], ◌∷◌, ◌++◌}
use mathlib.Core.Path.{◌≡◌, refl, sym, ◌∙◌}
use native.Mathlib.Omega.{arith}
use native.Mathlib.Decide.{dec_lt}
use Rattle.utf8.specs.declared.Lead.{Lead}
use Rattle.utf8.specs.Table.{Row}
use Rattle.utf8.specs.Subpart.{subpart_of}
use Rattle.utf8.specs.Head.{IllHead}
use Rattle.utf8.specs.Lead.{trail_of, byte_fits}
use Rattle.utf8.proofs.SequenceLaws.{ill_not_empty}
use Rattle.utf8.proofs.LeadLaws.{Begun, begins, next_in, subpart_out, subpart_alone, not_whole, lead_le}
use Rattle.utf8.proofs.measure_subpart.Goals as goal

-- the row goes on after bytes that fit, since no sequence ends there
goes_on :
    {s : List ℕ} {l : Lead} {p : Row} {n : ℕ} → IllHead s → Begun s l p n → trail_of (suc n) l ≡ p ++ [] → suc n ≤ l.len
    → suc (suc n) ≤ l.len
goes_on {l = l} {n = n} i d r h = elim (dec_lt (suc n) l.len) [ yes k ↦ k | no k ↦ absurd (not_whole d i (omega arith) r) ]

module _ {s : List ℕ} {l : Lead} (first : Begun s l [] 0) (i : IllHead s) (n : l.len ≡ 0 → ⊥) where
  two : 2 ≤ l.len
  two = goes_on i first refl (omega arith)

  one_byte : byte_fits l.second s 1 ≡ false → 1 ≡ subpart_of s
  one_byte f = subpart_out first _ _ (suc (l.len - 2)) (omega (arith, two)) refl f

  module _ (f : byte_fits l.second s 1 ≡ true) where
    second : Begun s l (l.second ∷ []) 1
    second = next_in first _ f

    three : 3 ≤ l.len
    three = goes_on i second refl two

    two_bytes : byte_fits l.third s 2 ≡ false → 2 ≡ subpart_of s
    two_bytes g = subpart_out second _ _ (suc (suc (l.len - 3))) (omega (arith, three)) refl g

    three_bytes : byte_fits l.third s 2 ≡ true → 3 ≡ subpart_of s
    three_bytes g = go (byte_fits l.fourth s 3) refl
      where
        third : Begun s l (l.second ∷ l.third ∷ []) 2
        third = next_in second _ g

        four : l.len ≡ 4
        four = omega (arith, goes_on i third refl three, lead_le _ first.lead)

        go : (t : Bool) → byte_fits l.fourth s 3 ≡ t → 3 ≡ subpart_of s
        go true h = absurd (not_whole (next_in third _ h) i four refl)
        go false h = subpart_out third _ [] 3 four refl h

pub bounds-s-0 : goal.bounds-s-0
bounds-s-0 c = omega (arith, ill_not_empty _ c.requires)

pub returns-then-lead-eq0 : goal.returns-then-lead-eq0
returns-then-lead-eq0 c = subpart_alone (begins _ _ c.read_lead-lead.ensures (ill_not_empty _ c.requires)) c.if-lead-eq0.true

pub returns-then-not-fits : goal.returns-then-not-fits
returns-then-not-fits c =
    one_byte (begins _ _ c.read_lead-lead.ensures (ill_not_empty _ c.requires)) c.requires c.if-lead-eq0.false (sym c.fits.ensures ∙ c.if-not-fits.true)

pub returns-then-not-fits-2 : goal.returns-then-not-fits-2
returns-then-not-fits-2 c =
    two_bytes (begins _ _ c.read_lead-lead.ensures (ill_not_empty _ c.requires)) c.requires c.if-lead-eq0.false (sym c.fits.ensures ∙ c.if-not-fits.false)
    (sym c.fits-2.ensures ∙ c.if-not-fits-2.true)

pub returns : goal.returns
returns c =
    three_bytes (begins _ _ c.read_lead-lead.ensures (ill_not_empty _ c.requires)) c.requires c.if-lead-eq0.false (sym c.fits.ensures ∙ c.if-not-fits.false)
    (sym c.fits-2.ensures ∙ c.if-not-fits-2.false)
