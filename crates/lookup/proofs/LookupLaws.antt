-- What each answer of a lookup says, exactly when; its count is at most 13. Assumes nothing.
use Prim.Native.Nat.{ℕ, ◌≤◌}
use mathlib.Core.Path.{◌≡◌, refl, sym, ap, subst, ◌∙◌}
use mathlib.Core.Bool.{Bool, true, false, cond}
use mathlib.Core.List.{List}
use mathlib.Core.Option.{Option, none, some}
use native.Mathlib.Omega.{arith}
use Rattle.std.specs.Prelude.{Result, Err}
use Rattle.lists.proofs.BoolLaws.{impossible}
use Rattle.utf8.specs.Scalar.{is_scalar}
use Rattle.refusal.specs.declared.Refusal.{Refusal}
use Rattle.refusal.specs.declared.Refusal.TheVariants as refusal
use Rattle.image.specs.Header.{range_count, entry_count}
use Rattle.image.specs.Ranges.{range_at}
use Rattle.image.specs.Profile.{point_at, role_at, after_role}
use Rattle.image.specs.Check.{refusal_of, class_of}
use Rattle.image.proofs.ImageLaws.{refusal_means, means_refusal, accepted, refused_none}
use Rattle.image.proofs.RisingLaws.{class_cases, class_of_lem}
use Rattle.image.proofs.SectionLaws.{within_limits, records_rise, class_by_sections}
use Rattle.image.specs.Records.{entry_range, record_at, record_count, HasClass, held, in_none, HasRole, named, no_entry}
use Rattle.image.specs.declared.records.Section.TheVariants.{Ranges, Entries}
use Rattle.lookup.specs.declared.Probe.{Probe}
use Rattle.lookup.specs.Halving.{seek_of}
use Rattle.lookup.specs.Lookup.{found_in, lookup_by, lookup_within, lookup_of, found_with}
use Rattle.lookup.specs.Means.{LookupMeans, image_refused, not_scalar, found_class}
use Rattle.lookup.proofs.HalvingLaws.{seek_thirteen}
use Rattle.lookup.proofs.SeekLaws.{found_at}

-- the answer by the image's refusal
module _ (s : List ℕ) (x : ℕ) where
  pub refused : (r : Refusal) → refusal_of s ≡ some r → lookup_of s x ≡ Err r
  unfolding lookup_within
  refused r e = simp e

  pub checked : refusal_of s ≡ none → lookup_of s x ≡ found_in s x
  unfolding lookup_within
  checked e = simp e

module _ (s : List ℕ) (x : ℕ) (a : refusal_of s ≡ none) where
  pub scalar_none : is_scalar x ≡ false → lookup_of s x ≡ Err (refusal.NotScalar x)
  scalar_none f = checked s x a ∙ simp f

  pub scalar_class : is_scalar x ≡ true → lookup_of s x ≡ found_with (class_of s x) (seek_of (range_at s) 0 (range_count s) x).count
  scalar_class f = checked s x a ∙ simp f

  -- .. by what the two searches found
  pub searched :
      (p q : Probe) (c : ℕ) → is_scalar x ≡ true → p ≡ seek_of (record_at s Entries) 0 (record_count s Entries) x
      → q ≡ seek_of (record_at s Ranges) 0 (record_count s Ranges) x → c ≡ after_role p.class q.class → found_with c q.count ≡ lookup_of s x
  searched p q c h e f g =
      let u = ap (λ (z : Probe). z.class) e ∙ found_at s a Entries x in
      let v = ap (λ (z : Probe). z.class) f ∙ found_at s a Ranges x in
      let w = g ∙ (λ d. after_role (u d) (v d)) ∙ sym (class_by_sections s x) in
      (λ d. found_with (w d) (f d).count) ∙ sym (scalar_class h)

-- the role of x is that of the entry with this code point
module _ (point role : ℕ → ℕ) (m x : ℕ) where
  has_role : (r : ℕ) → HasClass (entry_range point role) m x r → HasRole point role m x r
  has_role r (held i l a b) = named i l (omega arith)
  has_role r (in_none f) = no_entry (λ i l e. f i l (omega arith) (omega arith))

  role_has : (r : ℕ) → HasRole point role m x r → HasClass (entry_range point role) m x r
  role_has r (named i l e) = held i l (omega arith) (omega arith)
  role_has r (no_entry f) = in_none (λ i l a b. f i l (omega arith))

-- the same answer has the same count
counts_same : (c k d l : ℕ) → found_with c k ≡ found_with d l → k ≡ l
counts_same c k d l e =
    let z : record { class = c; count = k } ≡ record { class = d; count = l } = cc in
    ap (λ (p : Probe). p.count) z

module _ (s : List ℕ) (x : ℕ) where
  abbrev steps : ℕ
  steps = (seek_of (range_at s) 0 (range_count s) x).count

  scalar_means : refusal_of s ≡ none → (b : Bool) → is_scalar x ≡ b → LookupMeans s x (cond b (found_with (class_of s x) steps) (Err (refusal.NotScalar x)))
  scalar_means a true h =
      let c = class_cases (range_at s) (range_count s) x in
      let r = has_role (point_at s) (role_at s) (entry_count s) x _ (class_cases (entry_range (point_at s) (role_at s)) (entry_count s) x) in
      rw (class_by_sections s x) (found_class (accepted s a) h c r)
  scalar_means a false h = not_scalar (accepted s a) h

  means_by : (o : Option Refusal) → refusal_of s ≡ o → LookupMeans s x (lookup_by s x o)
  means_by none e = scalar_means e (is_scalar x) refl
  means_by (some r) e = image_refused (refusal_means s (some r) e)

  -- what each answer says
  pub lookup_means : (f : Result Probe Refusal) → lookup_of s x ≡ f → LookupMeans s x f
  unfolding lookup_within
  lookup_means f e = subst (LookupMeans s x) e (means_by (refusal_of s) refl)

  -- and back
  pub means_lookup : (f : Result Probe Refusal) → LookupMeans s x f → lookup_of s x ≡ f
  means_lookup f (image_refused {r} m) = refused s x r (means_refusal s (some r) m)
  means_lookup f (not_scalar a h) = scalar_none s x (refused_none s a) h
  means_lookup f (found_class {class} {role} a h c r) =
      let o = refused_none s a in
      let u = class_of_lem (range_at s) (range_count s) (records_rise s o Ranges) x class c in
      let v = class_of_lem (entry_range (point_at s) (role_at s)) (entry_count s) (records_rise s o Entries) x role (role_has (point_at s) (role_at s) (entry_count s) x role r) in
      scalar_class s x o h ∙ ap (λ (k : ℕ). found_with k steps) (class_by_sections s x ∙ (λ d. after_role (v d) (u d)))

  -- at most 13 ranges are looked at
  pub lookup_thirteen : (c k : ℕ) → lookup_of s x ≡ found_with c k → k ≤ 13
  lookup_thirteen c k e = go (found_with c k) (lookup_means _ e) refl
    where
      go : (f : Result Probe Refusal) → LookupMeans s x f → f ≡ found_with c k → k ≤ 13
      go f (image_refused r) e = impossible (cc)
      go f (not_scalar a h) e = impossible (cc)
      go f (found_class a h t r) e =
          let y : steps ≡ k = counts_same _ _ _ _ e in
          omega (arith, seek_thirteen (range_at s) x (range_count s) (within_limits s (refused_none s a)).few_ranges)
