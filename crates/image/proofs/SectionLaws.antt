-- The records of an accepted image lie within its bytes, and rise; classes and roles by them. Assumes nothing.
use Prim.Native.Nat.{ℕ, ◌≤◌, ◌<◌}
use mathlib.Core.Path.{◌≡◌, refl, ap, ◌∙◌}
use mathlib.Core.Bool.{◌&&◌}
use mathlib.Core.List.{List}
use mathlib.Core.Option.{none}
use native.Mathlib.Omega.{arith}
use native.Mathlib.Decide.{dec_lt}
use lib.Dec.{leb, eqb}
use lib.ListN.{length}
use borrow.Author.Tests.{le-leb, lt-leb, eq-eqb, ne_eqb}
use Rattle.lists.proofs.FirstLaws.{first_same}
use Rattle.image.specs.Limits.{max_ranges, max_entries}
use Rattle.image.specs.Header.{range_count, entry_count, image_end}
use Rattle.image.specs.Ranges.{class_in}
use Rattle.image.specs.Profile.{point_at, role_at, role_by, after_role, is_medial, is_hashtag}
use Rattle.image.specs.Check.{refusal_of, range_class, entry_role, class_of, medial_of, hashtag_of}
use Rattle.image.proofs.ImageLaws.{accepted, accepted_size}
use Rattle.image.proofs.RoleLaws.{class_after, medial_by, hashtag_by, after_known}
use Rattle.image.specs.declared.records.Section.{Section}
use Rattle.image.specs.declared.records.Section.TheVariants.{Ranges, Entries}
use Rattle.image.specs.Records.{entry_range, record_at, record_count, section_class}
use Rattle.image.specs.Placed.{Rising}
use Rattle.image.proofs.ClassLaws.{ranges_rise, class_known}

-- the counts of an accepted image, and its length
pub record WithinLimits (s : List ℕ) : Type 0 where
  pub few_ranges : range_count s ≤ max_ranges
  pub few_entries : entry_count s ≤ max_entries
  pub size : length s ≡ image_end (range_count s) (entry_count s)

-- the entry with the code point x is the range of one code point that holds x
one_point : (p x : ℕ) → eqb p x ≡ (leb p x && leb x p)
one_point p x = go (dec_lt p x) (dec_lt x p)
  where
    go : Dec (p < x) → Dec (x < p) → eqb p x ≡ (leb p x && leb x p)
    go (yes l) d = simp (ne_eqb p x (λ e. omega arith), le-leb p x (omega arith), lt-leb x p l)
    go (no l) (yes k) = simp (ne_eqb p x (λ e. omega arith), lt-leb p x k)
    go (no l) (no k) = simp (eq-eqb p x (omega arith), le-leb p x (omega arith), le-leb x p (omega arith))

-- so a role is a class among the entries
role_class : (point role : ℕ → ℕ) (m x : ℕ) → role_by point role m x ≡ class_in (entry_range point role) m x
unfolding role_by class_in
role_class point role m x = rw (first_same (λ (i : ℕ). eqb (point i) x) (λ (i : ℕ). leb (point i) x && leb x (point i)) m (λ i l. one_point (point i) x))

-- the class after the profile, medials and role 5, by the classes in the two sections
module _ (s : List ℕ) (x : ℕ) where
  pub range_class_lem : range_class s x ≡ section_class s Ranges x
  unfolding range_class
  range_class_lem = refl

  pub entry_role_lem : entry_role s x ≡ section_class s Entries x
  unfolding entry_role
  entry_role_lem = role_class (point_at s) (role_at s) (entry_count s) x

  pub class_by_sections : class_of s x ≡ after_role (section_class s Entries x) (section_class s Ranges x)
  class_by_sections = class_after s x ∙ (λ i. after_role (entry_role_lem i) (range_class_lem i))

  pub medial_by_sections : medial_of s x ≡ is_medial (section_class s Entries x)
  medial_by_sections = medial_by s x ∙ ap is_medial entry_role_lem

  pub hashtag_by_sections : hashtag_of s x ≡ is_hashtag (section_class s Entries x)
  hashtag_by_sections = hashtag_by s x ∙ ap is_hashtag entry_role_lem

module _ (s : List ℕ) (a : refusal_of s ≡ none) where
  pub within_limits : WithinLimits s
  within_limits = let h = (accepted s a).header in record { few_ranges = h.few_ranges; few_entries = h.few_entries; size = accepted_size s a }

  pub few_records : (section : Section) → record_count s section ≤ max_ranges
  few_records Ranges = within_limits.few_ranges
  few_records Entries = omega (arith, within_limits.few_entries)

  pub records_rise : (section : Section) → Rising (record_at s section) (record_count s section)
  records_rise Ranges = ranges_rise _ _ (accepted s a).ranges
  records_rise Entries =
      let good = (accepted s a).entries in
      record { ordered = λ i l. omega arith; after = λ i h l. (good i l).rises h }

  -- classes in the ranges go to 5
  pub range_known : (x : ℕ) → section_class s Ranges x ≤ 5
  range_known x = class_known _ _ (accepted s a).ranges x

-- the class after the profile is one of 0 to 5
pub class_of_known : (s : List ℕ) (x : ℕ) → refusal_of s ≡ none → class_of s x ≤ 5
class_of_known s x a = rw (class_by_sections s x) (after_known _ _ (range_known s a x))
