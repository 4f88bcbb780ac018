-- What checking and reading an image give (docs/RULES.md, "Named refusals" 1 to 4 and 8), and what an image says of a code point.
-- `limit` is how many profile entries an image may have; the names without `_within` have the limit in force.
--
--   refuse_at                           the refusal of an index, where it is below a count
--   records_refusal                     3 where one of n ranges is bad, else 4 where one of m entries is, else the rest
--   refusal_within, refusal_of           the first in number order of 1 to 4 that applies; none: the image is accepted
--   accepted_with, accepted_within, accepted_of   what an accepted image gives: version, number of ranges, and the profile
--   refused_within, refused_by           what a refused one gives: the refusal, and the empty profile
--   check_by, check_within, check_of      the answer of the check
--   read_refusal                        1 to 4, then 8, of a read into a buffer of so many words
--   read_within, read_of                 the answer of reading
--   ranges_of                           the ranges of an image, three words each
--   words_by, words_within, words_after   what the buffer holds after reading
--   range_class, entry_role              the class of a code point in the ranges; its role in the profile, or 0
--   class_of, medial_of, hashtag_of       its class after the profile; whether it is a medial; whether its role is 5
use Rattle.std.specs.Prelude.{ℕ, ◌/◌, List, Bool, cond, length, ltb, Result, Ok, Err}
use Rattle.std.proofs.Math.Option.{Option, none, some}
use Rattle.lists.specs.Each.{each}
use Rattle.lists.specs.Laid.{laid}
use Rattle.refusal.specs.declared.Refusal.{Refusal}
use Rattle.refusal.specs.declared.Refusal.TheVariants as refusal
use Rattle.image.specs.Limits.{max_entries, words_per_range}
use Rattle.image.specs.Header.{version_of, range_count, entry_count, length_within, header_within}
use Rattle.image.specs.Ranges.{range_at, range_words, first_bad_range, class_in}
use Rattle.image.specs.Profile.{point_at, role_at, first_bad_entry, profile_within, no_profile_within, role_by, after_role, is_medial, is_hashtag}
use Rattle.image.specs.declared.Range.{Range}
use Rattle.image.specs.declared.Summary.{Summary}
use Rattle.image.specs.declared.Checked.{Checked}

abbrev pub refuse_at : (ℕ → Refusal) → ℕ → ℕ → Option Refusal → Option Refusal
refuse_at f i n other = cond (ltb i n) (some (f i)) other

-- each carries the index of the first bad one
unfoldable pub records_refusal : (ℕ → Range) → ℕ → (ℕ → ℕ) → (ℕ → ℕ) → ℕ → Option Refusal → Option Refusal
records_refusal at n point role m rest =
    refuse_at refusal.Range (first_bad_range at n) n (refuse_at refusal.Entry (first_bad_entry point role m) m rest)

unfoldable pub refusal_within : ℕ → List ℕ → Option Refusal
refusal_within limit s =
    cond (length_within limit s)
    (cond (header_within limit s) (records_refusal (range_at s) (range_count s) (point_at s) (role_at s) (entry_count s) none) (some refusal.Header))
    (some refusal.Length)

abbrev pub refusal_of : List ℕ → Option Refusal
refusal_of s = refusal_within max_entries s

-- what an accepted image gives by its version and its number of ranges
abbrev pub accepted_with : ℕ → ℕ → Result Summary Refusal
accepted_with version ranges = Ok (record { version = version; ranges = ranges })

abbrev pub accepted_within : ℕ → List ℕ → Checked
accepted_within limit s = record { answer = accepted_with (version_of s) (range_count s); profile = profile_within limit s }

abbrev pub accepted_of : List ℕ → Checked
accepted_of s = accepted_within max_entries s

abbrev pub refused_within : ℕ → Refusal → Checked
refused_within limit r = record { answer = Err r; profile = no_profile_within limit }

abbrev pub refused_by : Refusal → Checked
refused_by r = refused_within max_entries r

abbrev pub check_by : ℕ → List ℕ → Option Refusal → Checked
check_by limit s none = accepted_within limit s
check_by limit s (some r) = refused_within limit r

unfoldable pub check_within : ℕ → List ℕ → Checked
check_within limit s = check_by limit s (refusal_within limit s)

abbrev pub check_of : List ℕ → Checked
check_of s = check_within max_entries s

-- 8 carries the records needed
abbrev pub read_refusal : List ℕ → ℕ → Option Refusal → Option Refusal
read_refusal s words none = cond (ltb (words / words_per_range) (range_count s)) (some (refusal.Room (range_count s))) none
read_refusal s words (some r) = some r

unfoldable pub read_within : ℕ → List ℕ → ℕ → Checked
read_within limit s words = check_by limit s (read_refusal s words (refusal_within limit s))

abbrev pub read_of : List ℕ → ℕ → Checked
read_of s words = read_within max_entries s words

abbrev pub ranges_of : List ℕ → List ℕ
ranges_of s = each (λ (i : ℕ). range_words (range_at s i)) (range_count s)

-- the ranges, and past them what was there; a refusal leaves all as it was
abbrev pub words_by : List ℕ → List ℕ → Option Refusal → List ℕ
words_by s out none = laid out 0 (ranges_of s)
words_by s out (some r) = out

unfoldable pub words_within : ℕ → List ℕ → List ℕ → List ℕ
words_within limit s out = words_by s out (read_refusal s (length out) (refusal_within limit s))

abbrev pub words_after : List ℕ → List ℕ → List ℕ
words_after s out = words_within max_entries s out

unfoldable pub range_class : List ℕ → ℕ → ℕ
range_class s x = class_in (range_at s) (range_count s) x

unfoldable pub entry_role : List ℕ → ℕ → ℕ
entry_role s x = role_by (point_at s) (role_at s) (entry_count s) x

unfoldable pub class_of : List ℕ → ℕ → ℕ
class_of s x = after_role (entry_role s x) (range_class s x)

unfoldable pub medial_of : List ℕ → ℕ → Bool
medial_of s x = is_medial (entry_role s x)

unfoldable pub hashtag_of : List ℕ → ℕ → Bool
hashtag_of s x = is_hashtag (entry_role s x)
