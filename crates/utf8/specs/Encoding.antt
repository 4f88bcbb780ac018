-- Scalar values and their bytes (docs/RULES.md, "UTF-8 by its first byte"; the Unicode Standard, section 3.9, Table 3-6), in both
-- directions; and the forms of what is proved of it and of Table 3-7.
--
--   encoding             the bytes of a scalar value
--   lead_bits, join       the bits of a sequence's first byte; a number, and after it the bits of other bytes
--   code_point            the code point that a sequence stands for
--   Encodes, EncodesIn   bytes that are the encoding of a scalar value; of a code point of a range
--   FillsAt, EncodesAt   bytes that fill row number k, from 0 on; that are the encoding of one of its code points
--   OneRow               bytes that fill one row of Table 3-7, and no other
--   OneEncoding          a number that has exactly one encoding
use Rattle.std.specs.Prelude.{ℕ, zero, suc, ◌+◌, ◌*◌, ◌/◌, ◌%◌, ◌≤◌, ◌≡◌, true, cond, List, [], ◌∷◌, ltb, length}
use Rattle.utf8.specs.Scalar.{is_scalar}
use Rattle.utf8.specs.Table.{ByteRange, Row, TableRow, rows, Fills, Sequence}

-- row by row of Table 3-6: 0xxxxxxx; 110yyyyy 10xxxxxx; 1110zzzz 10yyyyyy 10xxxxxx; 11110uuu 10uuzzzz 10yyyyyy 10xxxxxx.
-- The first row that has room for its bits: 7, 11, 16, 21
unfoldable pub encoding : ℕ → List ℕ
encoding x =
    cond (ltb x 0x80) (x ∷ [])
    (cond (ltb x 0x800) ((0xC0 + x / 0x40) ∷ (0x80 + x % 0x40) ∷ [])
    (cond (ltb x 0x10000) ((0xE0 + x / 0x1000) ∷ (0x80 + x / 0x40 % 0x40) ∷ (0x80 + x % 0x40) ∷ [])
    ((0xF0 + x / 0x40000) ∷ (0x80 + x / 0x1000 % 0x40) ∷ (0x80 + x / 0x40 % 0x40) ∷ (0x80 + x % 0x40) ∷ [])))

-- the first byte of a sequence of 1, 2, 3 or 4 bytes gives 7, 5, 4 or 3 bits, each other byte 6
abbrev pub lead_bits : ℕ → ℕ → ℕ
lead_bits zero b = b
lead_bits (suc zero) b = b % 32
lead_bits (suc (suc zero)) b = b % 16
lead_bits (suc (suc (suc n))) b = b % 8

abbrev pub join : ℕ → List ℕ → ℕ
join a [] = a
join a (b ∷ q) = join (a * 64 + b % 64) q

abbrev pub code_point : List ℕ → ℕ
code_point [] = 0
code_point (b ∷ q) = join (lead_bits (length q) b) q

pub record Encodes (q : List ℕ) : Type 0 where
  pub code : ℕ
  pub scalar : is_scalar code ≡ true
  pub bytes : q ≡ encoding code

pub record EncodesIn (g : ByteRange) (q : List ℕ) : Type 0 where
  pub code : ℕ
  pub from : g.low ≤ code
  pub upto : code ≤ g.high
  pub bytes : q ≡ encoding code

abbrev pub FillsAt : List Row → ℕ → List ℕ → Type 0
FillsAt [] k q = ⊥
FillsAt (r ∷ rs) zero q = Fills r q
FillsAt (r ∷ rs) (suc k) q = FillsAt rs k q

abbrev pub EncodesAt : List TableRow → ℕ → List ℕ → Type 0
EncodesAt [] k q = ⊥
EncodesAt (r ∷ rs) zero q = EncodesIn r.codes q
EncodesAt (r ∷ rs) (suc k) q = EncodesAt rs k q

pub record OneRow (q : List ℕ) : Type 0 where
  pub number : ℕ
  pub fills : FillsAt rows number q
  pub only : (k : ℕ) → FillsAt rows k q → k ≡ number

-- a sequence, which stands for x, and no other sequence does
pub record OneEncoding (x : ℕ) : Type 0 where
  pub sequence : Sequence (encoding x)
  pub code : code_point (encoding x) ≡ x
  pub only : (q : List ℕ) → Sequence q → code_point q ≡ x → q ≡ encoding x
