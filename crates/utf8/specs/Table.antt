-- Well-formed UTF-8 byte sequences (docs/RULES.md, "UTF-8 by its first byte"): the Unicode Standard, section 3.9, Table 3-7.
--
--   ByteRange, ◌to◌        a range of code points or of bytes, both ends in it
--   Row                the bytes of a row: a range for each
--   TableRow, row      a row as printed: code points, then the bytes of their sequences
--   table              Table 3-7, row by row
--   byte_columns, rows      the bytes of each row of a table; of Table 3-7
--   inside             a number is in a range
--   fits               a text begins with bytes that are as a row says
--   Fills, FillsSome   bytes are as a row says, and no more of them; as one of these rows says
--   Sequence           a well-formed sequence: it fills a row of the table
use Rattle.std.specs.Prelude.{ℕ, ◌≤◌, Bool, true, false, ◌&&◌, List, [], ◌∷◌, ◌⊎◌, leb}
use Rattle.utf8.specs.declared.Bounds.{Bounds}

abbrev pub ByteRange : Type 0
ByteRange = Bounds

infix 70 ◌to◌
abbrev pub ◌to◌ : ℕ → ℕ → ByteRange
a to b = record { low = a; high = b }

abbrev pub Row : Type 0
Row = List ByteRange

pub record TableRow : Type 0 where
  pub codes : ByteRange
  pub bytes : Row

abbrev pub row : ByteRange → Row → TableRow
row c r = record { codes = c; bytes = r }

abbrev pub table : List TableRow
table =
    row (0x0000 to 0x007F) (0x00 to 0x7F ∷ [])
    ∷ row (0x0080 to 0x07FF) (0xC2 to 0xDF ∷ 0x80 to 0xBF ∷ [])
    ∷ row (0x0800 to 0x0FFF) (0xE0 to 0xE0 ∷ 0xA0 to 0xBF ∷ 0x80 to 0xBF ∷ [])
    ∷ row (0x1000 to 0xCFFF) (0xE1 to 0xEC ∷ 0x80 to 0xBF ∷ 0x80 to 0xBF ∷ [])
    ∷ row (0xD000 to 0xD7FF) (0xED to 0xED ∷ 0x80 to 0x9F ∷ 0x80 to 0xBF ∷ [])
    ∷ row (0xE000 to 0xFFFF) (0xEE to 0xEF ∷ 0x80 to 0xBF ∷ 0x80 to 0xBF ∷ [])
    ∷ row (0x10000 to 0x3FFFF) (0xF0 to 0xF0 ∷ 0x90 to 0xBF ∷ 0x80 to 0xBF ∷ 0x80 to 0xBF ∷ [])
    ∷ row (0x40000 to 0xFFFFF) (0xF1 to 0xF3 ∷ 0x80 to 0xBF ∷ 0x80 to 0xBF ∷ 0x80 to 0xBF ∷ [])
    ∷ row (0x100000 to 0x10FFFF) (0xF4 to 0xF4 ∷ 0x80 to 0x8F ∷ 0x80 to 0xBF ∷ 0x80 to 0xBF ∷ [])
    ∷ []

abbrev pub byte_columns : List TableRow → List Row
byte_columns [] = []
byte_columns (r ∷ rs) = r.bytes ∷ byte_columns rs

abbrev pub rows : List Row
rows = byte_columns table

abbrev pub inside : ByteRange → ℕ → Bool
inside g b = leb g.low b && leb b g.high

-- one byte for each range
abbrev pub fits : Row → List ℕ → Bool
fits [] s = true
fits (g ∷ gs) [] = false
fits (g ∷ gs) (b ∷ s) = inside g b && fits gs s

abbrev pub Fills : Row → List ℕ → Type 0
Fills [] [] = Unit {0}
Fills [] (b ∷ q) = ⊥
Fills (g ∷ gs) [] = ⊥
Fills (g ∷ gs) (b ∷ q) = (g.low ≤ b) × (b ≤ g.high) × Fills gs q

abbrev pub FillsSome : List Row → List ℕ → Type 0
FillsSome [] q = ⊥
FillsSome (r ∷ rs) q = Fills r q ⊎ FillsSome rs q

unfoldable pub Sequence : List ℕ → Type 0
Sequence q = FillsSome rows q
