-- The limits and sizes of a class image (docs/RULES.md, "The class image"). Each stands in the code as one constant.
use Rattle.std.specs.Prelude.{ℕ, ◌+◌, ◌*◌}

-- ranges and profile entries that an image may have
abbrev pub max_ranges : ℕ
max_ranges = 4096

abbrev pub max_entries : ℕ
max_entries = 512

-- bytes of a number, of the header, of a range and of a profile entry
abbrev pub word_bytes : ℕ
word_bytes = 4

abbrev pub header_bytes : ℕ
header_bytes = 32

abbrev pub range_bytes : ℕ
range_bytes = 12

abbrev pub entry_bytes : ℕ
entry_bytes = 8

-- words of a range in a list of words
abbrev pub words_per_range : ℕ
words_per_range = 3

-- the largest image, where an image may have so many profile entries
abbrev pub largest_within : ℕ → ℕ
largest_within limit = header_bytes + range_bytes * max_ranges + entry_bytes * limit

abbrev pub max_image : ℕ
max_image = largest_within max_entries

-- the classes of ranges, and the roles, go from the first number to the last
abbrev pub first_class : ℕ
first_class = 1

abbrev pub last_class : ℕ
last_class = 5

abbrev pub first_role : ℕ
first_role = 1

abbrev pub last_role : ℕ
last_role = 5

-- the last code point, and the surrogates, which no range holds
abbrev pub last_code_point : ℕ
last_code_point = 0x10FFFF

abbrev pub first_surrogate : ℕ
first_surrogate = 0xD800

abbrev pub last_surrogate : ℕ
last_surrogate = 0xDFFF
