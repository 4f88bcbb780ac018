-- Readers that allow different numbers of profile entries: an image whose header the one with the lower limit finds right is judged the same
-- by the other; one that only the other accepts has more entries, and is refused for its length or its header. Assumes nothing.
use Prim.Native.Nat.{ℕ, ◌≤◌, ◌<◌}
use mathlib.Core.Path.{◌≡◌, refl, sym, ap, ◌∙◌}
use mathlib.Core.List.{List}
use mathlib.Core.Option.{Option, none, some}
use native.Mathlib.Omega.{arith}
use native.Mathlib.Decide.{dec_le}
use lib.ListN.{length, length-replicate}
use Rattle.lists.proofs.EachLaws.{length-column}
use Rattle.refusal.specs.declared.Refusal.{Refusal}
use Rattle.refusal.specs.declared.Refusal.TheVariants as refusal
use Rattle.image.specs.Limits.{largest_within}
use Rattle.image.specs.Header.{entry_count}
use Rattle.image.specs.Profile.{point_at, role_at, profile_within, no_profile_within}
use Rattle.image.specs.Same.{SameEntries, SameChecked}
use Rattle.image.specs.Accepted.{HeadedWithin, AcceptedWithin}
use Rattle.image.specs.Means.{bad_length, bad_header}
use Rattle.image.specs.Check.{refusal_within, check_by, check_within, read_refusal, read_within, words_by, words_within}
use Rattle.image.proofs.ImageLaws.{refused_none, means_refusal, past_header, entry_read}

-- an image that is longer than the largest
pub long_refused : (limit : ℕ) (s : List ℕ) → largest_within limit < length s → refusal_within limit s ≡ some refusal.Length
long_refused limit s h = means_refusal {limit = limit} s (some refusal.Length) (bad_length (λ z. omega (arith, z.short)))

-- the room of the two records is the limit
pub profile_room :
    (limit : ℕ) (s : List ℕ) → entry_count s ≤ limit → (length (profile_within limit s).points ≡ limit) × (length (profile_within limit s).roles ≡ limit)
unfolding profile_within
profile_room limit s h = (length-column limit (point_at s) (entry_count s) h, length-column limit (role_at s) (entry_count s) h)

pub no_profile_room : (limit : ℕ) → (length (no_profile_within limit).points ≡ limit) × (length (no_profile_within limit).roles ≡ limit)
unfolding no_profile_within
no_profile_room limit = (length-replicate limit 0, length-replicate limit 0)

-- a right header is right where more entries are allowed
pub header_still : {k l : ℕ} (s : List ℕ) → entry_count s ≤ l → HeadedWithin k s → HeadedWithin l s
header_still s m h =
    record {
      sized = record { long = h.sized.long; short = omega (arith, h.sized.total, h.size, h.few_ranges); total = h.sized.total };
      format_right = h.format_right;
      zeros = h.zeros;
      few_ranges = h.few_ranges;
      few_entries = m;
      ranges_begin = h.ranges_begin;
      entries_begin = h.entries_begin;
      size = h.size;
    }

module _ (k l : ℕ) (s : List ℕ) where
  -- the same refusal, or none
  pub same_refusal : k ≤ l → HeadedWithin k s → refusal_within k s ≡ refusal_within l s
  same_refusal h a = past_header {limit = k} s a ∙ sym (past_header {limit = l} s (header_still s (omega (arith, a.few_entries)) a))

  -- an image with more entries than are allowed is refused, one with no more is accepted, where the other reader accepts it
  pub many_refused : AcceptedWithin l s → length s ≤ largest_within k → k < entry_count s → refusal_within k s ≡ some refusal.Header
  many_refused a h m =
      means_refusal {limit = k} s (some refusal.Header)
      (bad_header (record { long = a.header.sized.long; short = h; total = a.header.sized.total }) (λ z. omega (arith, z.few_entries)))

  pub few_accepted : AcceptedWithin l s → entry_count s ≤ k → refusal_within k s ≡ none
  few_accepted a m = refused_none {limit = k} s (record { header = header_still s m a.header; ranges = a.ranges; entries = a.entries })

  pub only_above : AcceptedWithin l s → (refusal_within k s ≡ none → ⊥) → k < entry_count s
  only_above a f = go (dec_le (entry_count s) k)
    where
      go : Dec (entry_count s ≤ k) → k < entry_count s
      go (yes m) = absurd (f (few_accepted a m))
      go (no m) = omega arith

  -- the same profile, in records of different room
  pub same_profile_lem : SameEntries (profile_within k s) (profile_within l s)
  unfolding profile_within
  same_profile_lem =
      record {
        count = refl;
        point = λ i m. (entry_read k s i m).0 ∙ sym (entry_read l s i m).0;
        role = λ i m. (entry_read k s i m).1 ∙ sym (entry_read l s i m).1;
      }

  no_profile : SameEntries (no_profile_within k) (no_profile_within l)
  unfolding no_profile_within
  no_profile = record { count = refl; point = λ i m. absurd (omega arith); role = λ i m. absurd (omega arith) }

  same_by : (o : Option Refusal) → SameChecked (check_by k s o) (check_by l s o)
  same_by none = record { answer = refl; entries = same_profile_lem }
  same_by (some r) = record { answer = refl; entries = no_profile }

  -- what a check and a read give, where the refusal is the same
  module _ (e : refusal_within k s ≡ refusal_within l s) where
    pub same_check : SameChecked (check_within k s) (check_within l s)
    unfolding check_within
    same_check = rw (e) (same_by (refusal_within l s))

    pub same_read : (words : ℕ) → SameChecked (read_within k s words) (read_within l s words)
    unfolding read_within
    same_read words = rw (e) (same_by (read_refusal s words (refusal_within l s)))

    pub same_words : (out : List ℕ) → words_within k s out ≡ words_within l s out
    unfolding words_within
    same_words out = ap (λ (o : Option Refusal). words_by s out (read_refusal s (length out) o)) e

-- .. and where it is known
module _ (limit : ℕ) (s : List ℕ) (r : Refusal) (e : refusal_within limit s ≡ some r) where
  pub check_refused : check_within limit s ≡ check_by limit s (some r)
  unfolding check_within
  check_refused = ap (check_by limit s) e

  pub read_refused : (words : ℕ) → read_within limit s words ≡ check_by limit s (some r)
  unfolding read_within
  read_refused words = ap (λ (o : Option Refusal). check_by limit s (read_refusal s words o)) e

  pub words_kept : (out : List ℕ) → words_within limit s out ≡ out
  unfolding words_within
  words_kept out = ap (λ (o : Option Refusal). words_by s out (read_refusal s (length out) o)) e
