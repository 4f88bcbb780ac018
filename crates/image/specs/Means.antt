-- What each answer of checking and of reading an image says (docs/RULES.md, "Named refusals" 1 to 4 and 8), exactly when.
-- `proofs/ImageLaws.antt` joins this to the answers of `Check.antt`.
use Rattle.std.specs.Prelude.{ℕ, ◌/◌, ◌≤◌, ◌<◌, List, length}
use Rattle.std.proofs.Math.Option.{Option, none, some}
use Rattle.lists.specs.First.{AllGood, FirstBad}
use Rattle.lists.specs.Laid.{laid}
use Rattle.refusal.specs.declared.Refusal.{Refusal}
use Rattle.refusal.specs.declared.Refusal.TheVariants as refusal
use Rattle.image.specs.Limits.{max_entries, words_per_range}
use Rattle.image.specs.Header.{range_count, entry_count}
use Rattle.image.specs.Ranges.{range_at}
use Rattle.image.specs.Profile.{point_at, role_at}
use Rattle.image.specs.Good.{GoodRange, GoodEntry}
use Rattle.image.specs.Accepted.{SizedWithin, HeadedWithin, AcceptedWithin, Accepted}
use Rattle.image.specs.Check.{accepted_of, refused_by, ranges_of}
use Rattle.image.specs.declared.Checked.{Checked}

-- no refusal, or one of 1 to 4, where an image may have up to `limit` profile entries
pub data RefusalMeansWithin (limit : ℕ) (s : List ℕ) : Option Refusal → Type 0 where
  is_accepted : AcceptedWithin limit s → RefusalMeansWithin limit s none
  bad_length : (SizedWithin limit s → ⊥) → RefusalMeansWithin limit s (some refusal.Length)
  bad_header : SizedWithin limit s → (HeadedWithin limit s → ⊥) → RefusalMeansWithin limit s (some refusal.Header)
  bad_range : {i : ℕ} → HeadedWithin limit s → FirstBad (GoodRange (range_at s)) (range_count s) i → RefusalMeansWithin limit s (some (refusal.Range i))
  bad_entry :
      {i : ℕ} → HeadedWithin limit s → AllGood (GoodRange (range_at s)) (range_count s) → FirstBad (GoodEntry (point_at s) (role_at s)) (entry_count s) i
      → RefusalMeansWithin limit s (some (refusal.Entry i))

-- .. with the limit in force
abbrev pub RefusalMeans : List ℕ → Option Refusal → Type 0
RefusalMeans s o = RefusalMeansWithin max_entries s o

-- a check: 1 to 4; or version, number of ranges and profile
pub data CheckMeans (s : List ℕ) : Checked → Type 0 where
  check_refused : {r : Refusal} → RefusalMeans s (some r) → CheckMeans s (refused_by r)
  is_checked : Accepted s → CheckMeans s (accepted_of s)

-- a read into the buffer `out`, and what the buffer then holds: 1 to 4; 8 with the number of ranges; or version, number of ranges
-- and profile, and the ranges at the buffer's front. A refused read leaves the buffer as it was.
pub data ReadMeans (s out : List ℕ) : Checked → List ℕ → Type 0 where
  read_refused : {r : Refusal} → RefusalMeans s (some r) → ReadMeans s out (refused_by r) out
  lacks_room : Accepted s → length out / words_per_range < range_count s → ReadMeans s out (refused_by (refusal.Room (range_count s))) out
  is_read : Accepted s → range_count s ≤ length out / words_per_range → ReadMeans s out (accepted_of s) (laid out 0 (ranges_of s))
