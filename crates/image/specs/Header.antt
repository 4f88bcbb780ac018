-- The header of a class image: eight numbers in 32 bytes (docs/RULES.md, "The class image"; refusals 1 and 2).
-- `limit` is how many profile entries an image may have; the names without `_within` have the limit in force.
--
--   format_of, version_of, total_of   format, version and total length
--   range_count, range_offset        the number of ranges, n, and where they begin
--   entry_count, entry_offset        the number of profile entries, m, and where they begin
--   zero_word                       the last word, 0 in a right header
--   format                         the one format
--   entries_at, image_end            where the profile entries begin after n ranges; where the image ends after m of them
--   length_within, length_right      refusal 1 doesn't apply
--   header_within, header_right      refusal 2 doesn't apply
use Rattle.std.specs.Prelude.{ℕ, ◌+◌, ◌*◌, List, Bool, ◌&&◌, length, leb, eqb}
use Rattle.image.specs.Word.{word_at}
use Rattle.image.specs.Limits.{max_ranges, max_entries, header_bytes, range_bytes, entry_bytes, largest_within}

abbrev pub format_of : List ℕ → ℕ
format_of s = word_at s 0

abbrev pub version_of : List ℕ → ℕ
version_of s = word_at s 4

abbrev pub total_of : List ℕ → ℕ
total_of s = word_at s 8

abbrev pub range_count : List ℕ → ℕ
range_count s = word_at s 12

abbrev pub range_offset : List ℕ → ℕ
range_offset s = word_at s 16

abbrev pub entry_count : List ℕ → ℕ
entry_count s = word_at s 20

abbrev pub entry_offset : List ℕ → ℕ
entry_offset s = word_at s 24

abbrev pub zero_word : List ℕ → ℕ
zero_word s = word_at s 28

abbrev pub format : ℕ
format = 1

abbrev pub entries_at : ℕ → ℕ
entries_at n = header_bytes + range_bytes * n

abbrev pub image_end : ℕ → ℕ → ℕ
image_end n m = entries_at n + entry_bytes * m

unfoldable pub length_within : ℕ → List ℕ → Bool
length_within limit s = leb header_bytes (length s) && (leb (length s) (largest_within limit) && eqb (total_of s) (length s))

abbrev pub length_right : List ℕ → Bool
length_right s = length_within max_entries s

unfoldable pub header_within : ℕ → List ℕ → Bool
header_within limit s =
    eqb (format_of s) format
    && (eqb (zero_word s) 0
    && (leb (range_count s) max_ranges
    && (leb (entry_count s) limit
    && (eqb (range_offset s) header_bytes
    && (eqb (entry_offset s) (entries_at (range_count s)) && eqb (total_of s) (image_end (range_count s) (entry_count s)))))))

abbrev pub header_right : List ℕ → Bool
header_right s = header_within max_entries s
