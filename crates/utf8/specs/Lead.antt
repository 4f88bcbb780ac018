-- Inner: no public statement cites this file.
-- What the first byte of a sequence decides (docs/RULES.md, "UTF-8 by its first byte"): the reader's form of Table 3-7.
-- `proofs/LeadLaws.antt` joins the two.
--
--   absent                 the range of a byte that a sequence doesn't have
--   lead_after, lead_of_row   the lead of a row, by its ranges after the first; by all of them
--   leads                  the first range of a row has the byte
--   lead_in, lead_of         the lead of the row whose first range has the byte: of these rows; of Table 3-7
--   trail_of                the ranges of the bytes after the first, in a sequence of this length
--   step_as, step_by         the sequence at the head of a text, by the lead of its first byte
--   whole_length            the length of a sequence, if the bytes after its first are as these ranges say; otherwise 0
--   byte_fits               byte i of a text is there and in a range
--   packed                 a sequence as one number: 8 times its code point, and its length; 0 where there is none
--   length_of               the length of a sequence; 0 where there is none
--   is_trail                a byte that only follows others in a sequence, 80 to BF
--   known_length            the length that the first byte of a well-formed sequence tells
use Rattle.std.specs.Prelude.{ℕ, zero, suc, ◌+◌, ◌*◌, Bool, false, ◌&&◌, cond, List, [], ◌∷◌, leb, ltb, length, take, drop, get_or}
use Rattle.utf8.specs.declared.Lead.{Lead}
use Rattle.utf8.specs.declared.Step.{Step}
use Rattle.utf8.specs.declared.Step.TheVariants.{Scalar, IllFormed, End}
use Rattle.utf8.specs.Table.{ByteRange, ◌to◌, Row, rows, inside, fits}
use Rattle.utf8.specs.Encoding.{code_point}
use Rattle.utf8.specs.Subpart.{subpart_of}

abbrev pub absent : ByteRange
absent = 0x80 to 0xBF

abbrev pub lead_after : Row → Lead
lead_after gs = record { len = suc (length gs); second = get_or gs 0 absent; third = get_or gs 1 absent; fourth = get_or gs 2 absent }

abbrev pub lead_of_row : Row → Lead
lead_of_row [] = record { len = 0; second = absent; third = absent; fourth = absent }
lead_of_row (g ∷ gs) = lead_after gs

abbrev pub leads : Row → ℕ → Bool
leads [] b = false
leads (g ∷ gs) b = inside g b

-- length 0 where no row has the byte
abbrev pub lead_in : List Row → ℕ → Lead
lead_in [] b = lead_of_row []
lead_in (r ∷ rs) b = cond (leads r b) (lead_of_row r) (lead_in rs b)

unfoldable pub lead_of : ℕ → Lead
lead_of b = lead_in rows b

abbrev pub trail_of : ℕ → Lead → Row
trail_of zero l = []
trail_of (suc n) l = take n (l.second ∷ l.third ∷ l.fourth ∷ [])

abbrev pub step_as : ℕ → Row → List ℕ → Step
step_as zero gs s = IllFormed (subpart_of s)
step_as (suc n) gs s = cond (fits gs (drop 1 s)) (Scalar (code_point (take (suc n) s)) (suc n)) (IllFormed (subpart_of s))

unfoldable pub step_by : Lead → List ℕ → Step
step_by l s = step_as l.len (trail_of l.len l) s

abbrev pub whole_length : Row → List ℕ → ℕ
whole_length gs s = cond (fits gs (drop 1 s)) (suc (length gs)) 0

unfoldable pub byte_fits : ByteRange → List ℕ → ℕ → Bool
byte_fits g s i = ltb i (length s) && inside g (get_or s i 0)

abbrev pub packed : Step → ℕ
packed (Scalar x n) = x * 8 + n
packed (IllFormed n) = 0
packed End = 0

abbrev pub length_of : Step → ℕ
length_of (Scalar x n) = n
length_of (IllFormed n) = 0
length_of End = 0

abbrev pub is_trail : ℕ → Bool
is_trail b = leb 0x80 b && ltb b 0xC0

unfoldable pub known_length : ℕ → ℕ
known_length b = cond (ltb b 0x80) 1 (cond (ltb b 0xE0) 2 (cond (ltb b 0xF0) 3 4))
