-- What an accepted image is (docs/RULES.md, "The class image"), where an image may have up to `limit` profile entries.
-- `proofs/ImageLaws.antt` joins this to `refusal_within` of `Check.antt`.
use Rattle.std.specs.Prelude.{ℕ, ◌≤◌, ◌≡◌, List, length}
use Rattle.lists.specs.First.{AllGood}
use Rattle.image.specs.Limits.{max_ranges, max_entries, header_bytes, largest_within}
use Rattle.image.specs.Header.{
  format_of,
  total_of,
  range_count,
  range_offset,
  entry_count,
  entry_offset,
  zero_word,
  format,
  entries_at,
  image_end,
}
use Rattle.image.specs.Ranges.{range_at}
use Rattle.image.specs.Profile.{point_at, role_at}
use Rattle.image.specs.Good.{GoodRange, GoodEntry}

-- an image of a length within its limits, which is the header's total length
pub record SizedWithin (limit : ℕ) (s : List ℕ) : Type 0 where
  pub long : header_bytes ≤ length s
  pub short : length s ≤ largest_within limit
  pub total : total_of s ≡ length s

-- and whose header is right
pub record HeadedWithin (limit : ℕ) (s : List ℕ) : Type 0 where
  pub sized : SizedWithin limit s
  pub format_right : format_of s ≡ format
  pub zeros : zero_word s ≡ 0
  pub few_ranges : range_count s ≤ max_ranges
  pub few_entries : entry_count s ≤ limit
  pub ranges_begin : range_offset s ≡ header_bytes
  pub entries_begin : entry_offset s ≡ entries_at (range_count s)
  pub size : total_of s ≡ image_end (range_count s) (entry_count s)

-- an accepted image
pub record AcceptedWithin (limit : ℕ) (s : List ℕ) : Type 0 where
  pub header : HeadedWithin limit s
  pub ranges : AllGood (GoodRange (range_at s)) (range_count s)
  pub entries : AllGood (GoodEntry (point_at s) (role_at s)) (entry_count s)

-- .. with the limit in force
abbrev pub Sized : List ℕ → Type 0
Sized s = SizedWithin max_entries s

abbrev pub Headed : List ℕ → Type 0
Headed s = HeadedWithin max_entries s

abbrev pub Accepted : List ℕ → Type 0
Accepted s = AcceptedWithin max_entries s
