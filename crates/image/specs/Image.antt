-- The image with a version, ranges and a profile, as numbers and as bytes (docs/RULES.md, "The class image").
use Rattle.std.specs.Prelude.{ℕ, List, [], ◌∷◌, ◌++◌}
use Rattle.lists.specs.Each.{each}
use Rattle.image.specs.Word.{bytes_of}
use Rattle.image.specs.Limits.{header_bytes}
use Rattle.image.specs.Header.{format, entries_at, image_end}
use Rattle.image.specs.Ranges.{range_words}
use Rattle.image.specs.Profile.{point_in, role_in}
use Rattle.image.specs.declared.Range.{Range}
use Rattle.image.specs.declared.Profile.{Profile}

-- format, version, total length, range count, range offset, profile count, profile offset, zero
abbrev pub header_words : ℕ → ℕ → ℕ → List ℕ
header_words version n m = format ∷ version ∷ image_end n m ∷ n ∷ header_bytes ∷ m ∷ entries_at n ∷ 0 ∷ []

abbrev pub entry_words : Profile → ℕ → List ℕ
entry_words p i = point_in p i ∷ role_in p i ∷ []

-- header, n ranges, and the entries before the profile's used length
unfoldable pub image_words : ℕ → (ℕ → Range) → ℕ → Profile → List ℕ
image_words version at n p =
    header_words version n p.used ++ (each (λ (i : ℕ). range_words (at i)) n ++ each (entry_words p) p.used)

-- each number's four bytes, one number after the other
unfoldable pub bytes_of_all : List ℕ → List ℕ
bytes_of_all [] = []
bytes_of_all (w ∷ ws) = bytes_of w ++ bytes_of_all ws

unfoldable pub image_of : ℕ → (ℕ → Range) → ℕ → Profile → List ℕ
image_of version at n p = bytes_of_all (image_words version at n p)
