-- What may be written as an image (docs/RULES.md, "The class image"), and what each answer of the writer says ("Named refusals"), exactly when.
-- `proofs/WriteLaws.antt` joins this to the answers of `Write.antt`.
use Rattle.refusal.specs.declared.Refusal.{Refusal}
use Rattle.std.specs.Prelude.{ℕ, ◌%◌, ◌≤◌, ◌<◌, ◌≡◌, List, length, Result, Ok, Err}
use Rattle.lists.specs.First.{AllGood, FirstBad}
use Rattle.lists.specs.Laid.{laid}
use Rattle.refusal.specs.declared.Refusal.TheVariants as refusal
use Rattle.image.specs.declared.Profile.{Profile}
use Rattle.image.specs.Limits.{max_ranges, max_entries, words_per_range}
use Rattle.image.specs.Ranges.{range_in}
use Rattle.image.specs.Profile.{point_in, role_in}
use Rattle.image.specs.Good.{GoodRange, GoodEntry}
use Rattle.image.specs.Image.{image_of}
use Rattle.writer.specs.Write.{ranges_in, bytes_needed}

-- the words are those of whole ranges
abbrev pub Shaped : List ℕ → Type 0
Shaped words = length words % words_per_range ≡ 0

-- and both counts are within their limits
pub record CountsFit (words : List ℕ) (p : Profile) : Type 0 where
  pub shaped : Shaped words
  pub few_ranges : ranges_in words ≤ max_ranges
  pub few_entries : p.used ≤ max_entries

-- ranges and entries that are good as well
pub record Writable (words : List ℕ) (p : Profile) : Type 0 where
  pub counted : CountsFit words p
  pub ranges : AllGood (GoodRange (range_in words)) (ranges_in words)
  pub entries : AllGood (GoodEntry (point_in p) (role_in p)) p.used

-- the answer, and what the buffer `out` then holds: 13, 2 for a count, 3, 4, 12 with the bytes needed; or the image's length, and the
-- image at the buffer's front. A refused call leaves the buffer as it was.
pub data WriteMeans (version : ℕ) (words : List ℕ) (p : Profile) (out : List ℕ) : Result ℕ Refusal → List ℕ → Type 0 where
  bad_shape : (Shaped words → ⊥) → WriteMeans version words p out (Err refusal.Shape) out
  many_ranges : Shaped words → max_ranges < ranges_in words → WriteMeans version words p out (Err refusal.Header) out
  many_entries : Shaped words → max_entries < p.used → WriteMeans version words p out (Err refusal.Header) out
  bad_range :
      {i : ℕ} → CountsFit words p → FirstBad (GoodRange (range_in words)) (ranges_in words) i
      → WriteMeans version words p out (Err (refusal.Range i)) out
  bad_entry :
      {i : ℕ} → CountsFit words p → AllGood (GoodRange (range_in words)) (ranges_in words) → FirstBad (GoodEntry (point_in p) (role_in p)) p.used i
      → WriteMeans version words p out (Err (refusal.Entry i)) out
  lacks_room :
      Writable words p → length out < bytes_needed words p → WriteMeans version words p out (Err (refusal.Buffer (bytes_needed words p))) out
  is_written :
      Writable words p → bytes_needed words p ≤ length out
      → WriteMeans version words p out (Ok (bytes_needed words p)) (laid out 0 (image_of version (range_in words) (ranges_in words) p))
