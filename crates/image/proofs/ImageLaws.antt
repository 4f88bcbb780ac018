-- What the answers of checking an image say of its bytes, each refusal exactly when; and what an accepted image holds. Assumes nothing.
use Prim.Native.Nat.{ℕ, ◌+◌, ◌*◌, ◌≤◌, ◌<◌}
use mathlib.Core.Path.{◌≡◌, refl, sym, ap, subst, ◌∙◌}
use mathlib.Core.List.{List, [], ◌∷◌}
use mathlib.Core.Bool.{Bool, true, false, true≢false, cond}
use mathlib.Core.Option.{Option, none, some}
use mathlib.Core.Logic.{◌↔◌}
use native.Mathlib.Omega.{arith}
use lib.ListN.{length, take, get_or}
use lib.Seq.{get_or-take}
use lib.Dec.{leb, eqb}
use borrow.Author.Tests.{leb-true, eqb-true, le-leb, eq-eqb}
use Rattle.std.specs.Prelude.{Result, Err}
use Rattle.lists.proofs.BoolLaws.{split, impossible}
use Rattle.lists.proofs.EachLaws.{column_at, column_past, column_same}
use Rattle.refusal.specs.declared.Refusal.{Refusal}
use Rattle.refusal.specs.declared.Refusal.TheVariants as refusal
use Rattle.refusal.specs.Refusal.{number_of}
use Rattle.image.specs.Word.{word_at}
use Rattle.image.specs.Limits.{max_ranges, max_entries, word_bytes, header_bytes, entry_bytes, largest_within}
use Rattle.image.specs.Header.{
  format_of,
  version_of,
  total_of,
  range_count,
  range_offset,
  entry_count,
  entry_offset,
  zero_word,
  format,
  entries_at,
  image_end,
  length_within,
  header_within,
}
use Rattle.image.specs.Ranges.{range_at}
use Rattle.image.specs.Profile.{point_at, role_at, point_in, role_in, profile_within, profile_of}
use Rattle.image.specs.Same.{SameProfile}
use Rattle.image.specs.Accepted.{SizedWithin, HeadedWithin, AcceptedWithin}
use Rattle.image.specs.Means.{
  RefusalMeansWithin,
  RefusalMeans,
  is_accepted,
  bad_length,
  bad_header,
  bad_range,
  bad_entry,
  CheckMeans,
  check_refused,
  is_checked,
}
use Rattle.image.specs.Check.{records_refusal, refusal_within, refusal_of, check_by, check_within, check_of, accepted_with}
use Rattle.image.specs.declared.Profile.{Profile}
use Rattle.image.specs.Opened.{summary_of}
use Rattle.image.specs.declared.Summary.{Summary}
use Rattle.image.specs.declared.Checked.{Checked}
use Rattle.image.proofs.RecordsLaws.{records_mean, range_refused, entry_refused, none_refused}

-- a number is its four bytes: no other matters
pub word_same : (s t : List ℕ) (i : ℕ) → ((j : ℕ) → i ≤ j → j < i + word_bytes → get_or s j 0 ≡ get_or t j 0) → word_at s i ≡ word_at t i
unfolding word_at
word_same s t i f =
    rw (f i (omega arith) (omega arith), f (i + 1) (omega arith) (omega arith), f (i + 2) (omega arith) (omega arith), f (i + 3) (omega arith) (omega arith))

pub word_take : (s : List ℕ) (k i : ℕ) → i + word_bytes ≤ k → word_at (take k s) i ≡ word_at s i
word_take s k i l = word_same (take k s) s i (λ j a b. get_or-take k s j 0 (omega arith))

-- the length and the header: the tests and what they say
module _ {limit : ℕ} (s : List ℕ) where
  pub sized : length_within limit s ≡ true → SizedWithin limit s
  unfolding length_within
  sized l =
      let (a, (b, t)) = split (leb header_bytes (length s)) (leb (length s) (largest_within limit) ∷ eqb (total_of s) (length s) ∷ []) l in
      record { long = leb-true _ _ a; short = leb-true _ _ b; total = eqb-true _ _ t }

  length-right : SizedWithin limit s → length_within limit s ≡ true
  unfolding length_within
  length-right h = simp (le-leb _ _ h.long, le-leb _ _ h.short, eq-eqb _ _ h.total)

  pub headed : SizedWithin limit s → header_within limit s ≡ true → HeadedWithin limit s
  unfolding header_within
  headed z h =
      let (f, (o, (n, (m, (r, (e, k)))))) =
      split (eqb (format_of s) format)
      (eqb (zero_word s) 0
      ∷ leb (range_count s) max_ranges
      ∷ leb (entry_count s) limit
      ∷ eqb (range_offset s) header_bytes
      ∷ eqb (entry_offset s) (entries_at (range_count s))
      ∷ eqb (total_of s) (image_end (range_count s) (entry_count s))
      ∷ [])
      h in
      record {
        sized = z;
        format_right = eqb-true _ _ f;
        zeros = eqb-true _ _ o;
        few_ranges = leb-true _ _ n;
        few_entries = leb-true _ _ m;
        ranges_begin = eqb-true _ _ r;
        entries_begin = eqb-true _ _ e;
        size = eqb-true _ _ k;
      }

  header_right : HeadedWithin limit s → header_within limit s ≡ true
  unfolding header_within
  header_right h =
      simp (
        eq-eqb _ _ h.format_right,
        eq-eqb _ _ h.zeros,
        le-leb _ _ h.few_ranges,
        le-leb _ _ h.few_entries,
        eq-eqb _ _ h.ranges_begin,
        eq-eqb _ _ h.entries_begin,
        eq-eqb _ _ h.size,
      )

  not_sized : (SizedWithin limit s → ⊥) → (b : Bool) → length_within limit s ≡ b → b ≡ false
  not_sized f true e = absurd (f (sized e))
  not_sized f false e = refl

  not_headed : SizedWithin limit s → (HeadedWithin limit s → ⊥) → (b : Bool) → header_within limit s ≡ b → b ≡ false
  not_headed z f true e = absurd (f (headed z e))
  not_headed z f false e = refl

-- the words of a profile entry
module _ (s : List ℕ) (base i : ℕ) (e : base ≡ entries_at (range_count s)) where
  pub point_is : word_at s (base + entry_bytes * i) ≡ point_at s i
  unfolding point_at
  point_is = ap (λ (b : ℕ). word_at s (b + entry_bytes * i)) e

  pub role_is : word_at s (base + entry_bytes * i + word_bytes) ≡ role_at s i
  unfolding role_at
  role_is = ap (λ (b : ℕ). word_at s (b + entry_bytes * i + word_bytes)) e

-- the refusals of the ranges and of the entries, and none
abbrev pub after_header : List ℕ → Option Refusal
after_header s = records_refusal (range_at s) (range_count s) (point_at s) (role_at s) (entry_count s) none

-- the refusals of the length and of the header, by their tests
module _ (limit : ℕ) (s : List ℕ) where
  pub length_refused : length_within limit s ≡ false → refusal_within limit s ≡ some refusal.Length
  unfolding refusal_within
  length_refused l = simp l

  pub header_refused : length_within limit s ≡ true → header_within limit s ≡ false → refusal_within limit s ≡ some refusal.Header
  unfolding refusal_within
  header_refused l h = simp (l, h)

module _ {limit : ℕ} (s : List ℕ) where
  pub past_header : HeadedWithin limit s → refusal_within limit s ≡ after_header s
  unfolding refusal_within
  past_header h = simp (length-right s h.sized, header_right s h)

  means_records : HeadedWithin limit s → RefusalMeansWithin limit s (after_header s)
  means_records h =
      records_mean (range_at s) (range_count s) (point_at s) (role_at s) (entry_count s) none (RefusalMeansWithin limit s) (λ i f. bad_range h f) (λ g i f. bad_entry h g f)
      (λ g k. is_accepted (record { header = h; ranges = g; entries = k }))

  means_header : length_within limit s ≡ true → (b : Bool) → header_within limit s ≡ b → RefusalMeansWithin limit s (cond b (after_header s) (some refusal.Header))
  means_header l true e = means_records (headed s (sized s l) e)
  means_header l false e = bad_header (sized s l) (λ h. true≢false (sym (header_right s h) ∙ e))

  means_length : (b : Bool) → length_within limit s ≡ b → RefusalMeansWithin limit s (cond b (cond (header_within limit s) (after_header s) (some refusal.Header)) (some refusal.Length))
  means_length true e = means_header e _ refl
  means_length false e = bad_length (λ z. true≢false (sym (length-right s z) ∙ e))

  -- what the refusal of an image says, or that there is none
  pub refusal_means : (o : Option Refusal) → refusal_within limit s ≡ o → RefusalMeansWithin limit s o
  unfolding refusal_within
  refusal_means o e = subst (RefusalMeansWithin limit s) e (means_length _ refl)

  -- and back: where it is so, that is the refusal
  pub means_refusal : (o : Option Refusal) → RefusalMeansWithin limit s o → refusal_within limit s ≡ o
  means_refusal _ (is_accepted a) = past_header a.header ∙ none_refused _ _ _ _ _ none a.ranges a.entries
  means_refusal _ (bad_length f) = length_refused limit s (not_sized s f _ refl)
  means_refusal _ (bad_header z f) = header_refused limit s (length-right s z) (not_headed s z f _ refl)
  means_refusal _ (bad_range {i} h f) = past_header h ∙ range_refused _ _ _ _ _ none i f
  means_refusal _ (bad_entry {i} h g f) = past_header h ∙ entry_refused _ _ _ _ _ none g i f

  pub accepted : refusal_within limit s ≡ none → AcceptedWithin limit s
  accepted e = go (refusal_means none e)
    where
      go : RefusalMeansWithin limit s none → AcceptedWithin limit s
      go (is_accepted a) = a

  pub refused_none : AcceptedWithin limit s → refusal_within limit s ≡ none
  refused_none a = means_refusal none (is_accepted a)

  pub accepted_iff : (refusal_within limit s ≡ none) ↔ AcceptedWithin limit s
  accepted_iff = (accepted, refused_none)

module _ (s : List ℕ) where
  -- the header, the ranges and the entries fill an accepted image
  pub accepted_size : refusal_of s ≡ none → length s ≡ image_end (range_count s) (entry_count s)
  accepted_size e = let h = (accepted s e).header in omega arith

  -- an image is refused with 1 to 4
  pub refusal_number : (r : Refusal) → refusal_of s ≡ some r → number_of r ≤ 4
  refusal_number r e = go r (refusal_means s (some r) e)
    where
      go : (r : Refusal) → RefusalMeans s (some r) → number_of r ≤ 4
      go _ (bad_length f) = omega arith
      go _ (bad_header z f) = omega arith
      go _ (bad_range h f) = omega arith
      go _ (bad_entry h g f) = omega arith

-- the record of a profile: the image's entries, and zeros past them
module _ (limit : ℕ) (s : List ℕ) where
  pub entry_read : (i : ℕ) → i < entry_count s → (point_in (profile_within limit s) i ≡ point_at s i) × (role_in (profile_within limit s) i ≡ role_at s i)
  unfolding profile_within
  entry_read i l = (column_at limit (point_at s) (entry_count s) i l, column_at limit (role_at s) (entry_count s) i l)

  pub zeros_past : (i : ℕ) → entry_count s ≤ i → (point_in (profile_within limit s) i ≡ 0) × (role_in (profile_within limit s) i ≡ 0)
  unfolding profile_within
  zeros_past i l = (column_past limit (point_at s) (entry_count s) i l, column_past limit (role_at s) (entry_count s) i l)

-- the answer with a refusal, and without one
module _ (s : List ℕ) where
  check_by_lem : (o : Option Refusal) → refusal_of s ≡ o → CheckMeans s (check_by max_entries s o)
  check_by_lem none e = is_checked (accepted s e)
  check_by_lem (some r) e = check_refused (refusal_means s (some r) e)

  pub check_means : (k : Checked) → check_of s ≡ k → CheckMeans s k
  unfolding check_within
  check_means k e = subst (CheckMeans s) e (check_by_lem _ refl)

  pub means_check : (k : Checked) → CheckMeans s k → check_of s ≡ k
  unfolding check_within
  means_check _ (check_refused {r} m) = ap (check_by max_entries s) (means_refusal s (some r) m)
  means_check _ (is_checked a) = ap (check_by max_entries s) (refused_none s a)

  pub refuses : (r : Refusal) → refusal_of s ≡ some r → Err r ≡ (check_of s).answer
  unfolding check_within
  refuses r e = ap (λ (o : Option Refusal). (check_by max_entries s o).answer) (sym e)

  pub accepts : refusal_of s ≡ none → (v n : ℕ) → v ≡ version_of s → n ≡ range_count s → accepted_with v n ≡ (check_of s).answer
  unfolding check_within
  accepts e v n ev en = rw (ev, en) (ap (λ (o : Option Refusal). (check_by max_entries s o).answer) (sym e))

  -- and back, from an answer in hand
  pub refused_by : (a : Result Summary Refusal) → a ≡ (check_of s).answer → (r : Refusal) → a ≡ Err r → refusal_of s ≡ some r
  unfolding check_within
  refused_by a e r f = go _ refl (sym e ∙ f)
    where
      go : (o : Option Refusal) → refusal_of s ≡ o → (check_by max_entries s o).answer ≡ Err r → refusal_of s ≡ some r
      go none g h = impossible (cc)
      go (some q) g h = let z : q ≡ r = cc in g ∙ ap some z

  abbrev Accepts : ℕ → ℕ → Type 0
  Accepts v n = (refusal_of s ≡ none) × (v ≡ version_of s) × (n ≡ range_count s)

  pub accepted_by : (a : Result Summary Refusal) → a ≡ (check_of s).answer → (v n : ℕ) → a ≡ accepted_with v n → Accepts v n
  unfolding check_within
  accepted_by a e v n f = go _ refl (sym e ∙ f)
    where
      go : (o : Option Refusal) → refusal_of s ≡ o → (check_by max_entries s o).answer ≡ accepted_with v n → Accepts v n
      go none g h = let z : summary_of s ≡ record { version = v; ranges = n } = cc in (g, sym (ap (λ (x : Summary). x.version) z), sym (ap (λ (x : Summary). x.ranges) z))
      go (some q) g h = impossible (cc)

  -- what the check accepts is what the calls on a checked image require
  pub check_accepts : (v n : ℕ) → ((check_of s).answer ≡ accepted_with v n) ↔ Accepts v n
  check_accepts v n = (accepted_by (check_of s).answer refl v n, λ k. sym (accepts k.0 v n k.1 k.2))

-- equal profile sections give equal profile records, and back
module _ (s t : List ℕ) where
  pub profiles_equal : SameProfile s t → profile_of s ≡ profile_of t
  unfolding profile_within
  profiles_equal k =
      let p = column_same max_entries (point_at s) (point_at t) (entry_count s) k.point in
      let r = column_same max_entries (role_at s) (role_at t) (entry_count s) k.role in
      rw (p, r, k.count)

  pub equal_profiles : profile_of s ≡ profile_of t → SameProfile s t
  unfolding profile_within
  equal_profiles e =
      let n : entry_count s ≡ entry_count t = ap (λ (p : Profile). p.used) e in
      record {
        count = n;
        point = λ i l. sym (entry_read max_entries s i l).0 ∙ ap (λ (p : Profile). point_in p i) e ∙ (entry_read max_entries t i (omega arith)).0;
        role = λ i l. sym (entry_read max_entries s i l).1 ∙ ap (λ (p : Profile). role_in p i) e ∙ (entry_read max_entries t i (omega arith)).1;
      }
