-- Numbers of 32 bits in a list of bytes, little-endian (docs/RULES.md, "The class image").
use Rattle.std.specs.Prelude.{ℕ, ◌+◌, ◌*◌, ◌/◌, ◌%◌, ◌<◌, List, [], ◌∷◌, get_or}

abbrev pub join_of : ℕ → ℕ → ℕ → ℕ → ℕ
join_of a b c d = a + b * 0x100 + c * 0x10000 + d * 0x1000000

-- the number at byte i
unfoldable pub word_at : List ℕ → ℕ → ℕ
word_at s i = join_of (get_or s i 0) (get_or s (i + 1) 0) (get_or s (i + 2) 0) (get_or s (i + 3) 0)

-- the four bytes of a number
unfoldable pub bytes_of : ℕ → List ℕ
bytes_of w = w % 0x100 ∷ w / 0x100 % 0x100 ∷ w / 0x10000 % 0x100 ∷ w / 0x1000000 % 0x100 ∷ []

-- a number of 32 bits
abbrev pub IsWord : ℕ → Type 0
IsWord v = v < 0x100000000

-- every element is a byte, or a number of 32 bits, as in every slice of them
abbrev pub AllBytes : List ℕ → Type 0
AllBytes s = (i : ℕ) → get_or s i 0 < 0x100

abbrev pub AllWords : List ℕ → Type 0
AllWords w = (i : ℕ) → IsWord (get_or w i 0)
