-- An image at the front of a program's input, and what follows it (docs/RULES.md, "The programs").
-- `limit` is how many profile entries an image may have; the names without `_within` have the limit in force.
use Rattle.std.specs.Prelude.{ℕ, ◌≤◌, Bool, cond, ◌&&◌, List, length, take, drop, leb, if◌then◌else◌, Option, Some, None}
use Rattle.image.specs.Limits.{max_entries, header_bytes, largest_within}
use Rattle.image.specs.Header.{total_of}

-- the image ends where its total length says, and the rest follows
abbrev pub image_in : List ℕ → List ℕ
image_in input = take (total_of input) input

abbrev pub rest_in : List ℕ → List ℕ
rest_in input = drop (total_of input) input

-- the image comes whole: 32 bytes or more come, and its total length is 32 to that of the largest image, and no more than comes
unfoldable pub comes_within : ℕ → List ℕ → Bool
comes_within limit input =
    leb header_bytes (length input)
    && (leb header_bytes (total_of input) && (leb (total_of input) (largest_within limit) && leb (total_of input) (length input)))

-- where the image ends; 0 where it doesn't come whole
unfoldable pub end_within : ℕ → List ℕ → ℕ
end_within limit input = cond (comes_within limit input) (total_of input) 0

abbrev pub end_in : List ℕ → ℕ
end_in input = end_within max_entries input

-- the same of a call: no place where it doesn't come whole
abbrev pub whole_end_within : ℕ → List ℕ → Option ℕ
whole_end_within limit input = if comes_within limit input then Some (total_of input) else None

abbrev pub whole_end : List ℕ → Option ℕ
whole_end input = whole_end_within max_entries input

-- the image at the front, empty where it doesn't come whole, so that 1 refuses it; and all that follows
abbrev pub front_within : ℕ → List ℕ → List ℕ
front_within limit input = take (end_within limit input) input

abbrev pub after_within : ℕ → List ℕ → List ℕ
after_within limit input = drop (end_within limit input) input

abbrev pub front_in : List ℕ → List ℕ
front_in input = front_within max_entries input

abbrev pub after_in : List ℕ → List ℕ
after_in input = after_within max_entries input

-- what the test means
pub record WholeWithin (limit : ℕ) (input : List ℕ) : Type 0 where
  pub header : header_bytes ≤ length input
  pub long : header_bytes ≤ total_of input
  pub short : total_of input ≤ largest_within limit
  pub comes : total_of input ≤ length input

abbrev pub ComesWhole : List ℕ → Type 0
ComesWhole input = WholeWithin max_entries input
