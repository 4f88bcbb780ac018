-- Table 3-6 and Table 3-7: the sequences that fill a row are the encodings of its code points; each fills one row only; each scalar value
-- has exactly one encoding. Assumes nothing.
use Prim.Native.Nat.{ℕ, zero, suc, ◌+◌, ◌*◌, ◌/◌, ◌%◌, ◌≤◌, ◌<◌}
use mathlib.Core.Path.{◌≡◌, refl, sym, ap, subst, ◌∙◌}
use mathlib.Core.Bool.{true}
use mathlib.Core.List.{List, [], ◌∷◌}
use mathlib.Core.Logic.{inl, inr}
use native.Mathlib.Omega.{arith}
use native.Mathlib.Decide.{dec_lt}
use borrow.Author.Tests.{lt-ltb, le-ltb}
use Rattle.lists.proofs.BoolLaws.{impossible}
use Rattle.utf8.specs.Scalar.{is_scalar, ScalarMeans, below_surrogates, above_surrogates}
use Rattle.utf8.specs.Table.{ByteRange, ◌to◌, Row, TableRow, row, table, byte_columns, rows, Fills, FillsSome, Sequence}
use Rattle.utf8.specs.Encoding.{encoding, code_point, Encodes, EncodesIn, FillsAt, EncodesAt, OneRow, OneEncoding}
use Rattle.utf8.proofs.ScalarLaws.{means_scalar, scalar_means, scalar_le}
use Rattle.utf8.proofs.LeadLaws.{rising, rising_parts}

-- Table 3-6 by its rows
module _ (x : ℕ) where
  pub encoding_1 : x < 0x80 → encoding x ≡ x ∷ []
  unfolding encoding
  encoding_1 h = rw (lt-ltb x 0x80 h)

  pub encoding_2 : 0x80 ≤ x → x < 0x800 → encoding x ≡ (0xC0 + x / 0x40) ∷ (0x80 + x % 0x40) ∷ []
  unfolding encoding
  encoding_2 l h = rw (le-ltb x 0x80 l, lt-ltb x 0x800 h)

  pub encoding_3 : 0x800 ≤ x → x < 0x10000 → encoding x ≡ (0xE0 + x / 0x1000) ∷ (0x80 + x / 0x40 % 0x40) ∷ (0x80 + x % 0x40) ∷ []
  unfolding encoding
  encoding_3 l h = rw (le-ltb x 0x80 (omega arith), le-ltb x 0x800 l, lt-ltb x 0x10000 h)

  pub encoding_4 : 0x10000 ≤ x → encoding x ≡ (0xF0 + x / 0x40000) ∷ (0x80 + x / 0x1000 % 0x40) ∷ (0x80 + x / 0x40 % 0x40) ∷ (0x80 + x % 0x40) ∷ []
  unfolding encoding
  encoding_4 l = rw (le-ltb x 0x80 (omega arith), le-ltb x 0x800 (omega arith), le-ltb x 0x10000 l)

-- the standard's example (D92): 004D, 0430, 4E8C and 10302 hex
pub encoding_example :
    (encoding 0x4D ≡ 0x4D ∷ []) × (encoding 0x430 ≡ 0xD0 ∷ 0xB0 ∷ []) × (encoding 0x4E8C ≡ 0xE4 ∷ 0xBA ∷ 0x8C ∷ [])
    × (encoding 0x10302 ≡ 0xF0 ∷ 0x90 ∷ 0x8C ∷ 0x82 ∷ [])
unfolding encoding
encoding_example = (refl, refl, refl, refl)

-- a byte is in a range
abbrev pub Within : ByteRange → ℕ → Type 0
Within g b = (g.low ≤ b) × (b ≤ g.high)

-- bytes of each length are the encoding of the code point that they stand for
pub encodes_2 : (b c : ℕ) → Within (0xC2 to 0xDF) b → Within (0x80 to 0xBF) c → b ∷ c ∷ [] ≡ encoding (code_point (b ∷ c ∷ []))
encodes_2 b c g h =
    let x = code_point (b ∷ c ∷ []) in
    let e : b ≡ 0xC0 + x / 0x40 = omega arith in
    let f : c ≡ 0x80 + x % 0x40 = omega arith in
    (λ i. e i ∷ f i ∷ []) ∙ sym (encoding_2 x (omega arith) (omega arith))

pub encodes_3 :
    (b c d : ℕ) → Within (0xE0 to 0xEF) b → Within (0x80 to 0xBF) c → Within (0x80 to 0xBF) d → 0x800 ≤ code_point (b ∷ c ∷ d ∷ [])
    → b ∷ c ∷ d ∷ [] ≡ encoding (code_point (b ∷ c ∷ d ∷ []))
encodes_3 b c d g h i l =
    let x = code_point (b ∷ c ∷ d ∷ []) in
    let e : b ≡ 0xE0 + x / 0x1000 = omega arith in
    let f : c ≡ 0x80 + x / 0x40 % 0x40 = omega arith in
    let k : d ≡ 0x80 + x % 0x40 = omega arith in
    (λ i. e i ∷ f i ∷ k i ∷ []) ∙ sym (encoding_3 x l (omega arith))

pub encodes_4 :
    (b c d a : ℕ) → Within (0xF0 to 0xF7) b → Within (0x80 to 0xBF) c → Within (0x80 to 0xBF) d → Within (0x80 to 0xBF) a
    → 0x10000 ≤ code_point (b ∷ c ∷ d ∷ a ∷ []) → b ∷ c ∷ d ∷ a ∷ [] ≡ encoding (code_point (b ∷ c ∷ d ∷ a ∷ []))
encodes_4 b c d a g h i j l =
    let x = code_point (b ∷ c ∷ d ∷ a ∷ []) in
    let e : b ≡ 0xF0 + x / 0x40000 = omega arith in
    let f : c ≡ 0x80 + x / 0x1000 % 0x40 = omega arith in
    let k : d ≡ 0x80 + x / 0x40 % 0x40 = omega arith in
    let m : a ≡ 0x80 + x % 0x40 = omega arith in
    (λ i. e i ∷ f i ∷ k i ∷ m i ∷ []) ∙ sym (encoding_4 x l)

-- and back
code_2 : (x : ℕ) → x < 0x800 → code_point ((0xC0 + x / 0x40) ∷ (0x80 + x % 0x40) ∷ []) ≡ x
code_2 x h = omega arith

code_3 : (x : ℕ) → x < 0x10000 → code_point ((0xE0 + x / 0x1000) ∷ (0x80 + x / 0x40 % 0x40) ∷ (0x80 + x % 0x40) ∷ []) ≡ x
code_3 x h = omega arith

joined_4 :
    (u v w z : ℕ) → u < 8 → v < 0x40 → w < 0x40 → z < 0x40
    → code_point ((0xF0 + u) ∷ (0x80 + v) ∷ (0x80 + w) ∷ (0x80 + z) ∷ []) ≡ ((u * 0x40 + v) * 0x40 + w) * 0x40 + z
joined_4 u v w z a b c d = omega arith

code_4 : (x : ℕ) → x < 0x200000 → code_point ((0xF0 + x / 0x40000) ∷ (0x80 + x / 0x1000 % 0x40) ∷ (0x80 + x / 0x40 % 0x40) ∷ (0x80 + x % 0x40) ∷ []) ≡ x
code_4 x h =
    let e : x / 0x40000 * 0x40 + x / 0x1000 % 0x40 ≡ x / 0x1000 = omega arith in
    let f : x / 0x1000 * 0x40 + x / 0x40 % 0x40 ≡ x / 0x40 = omega arith in
    let g : x / 0x40 * 0x40 + x % 0x40 ≡ x = omega arith in
    joined_4 (x / 0x40000) (x / 0x1000 % 0x40) (x / 0x40 % 0x40) (x % 0x40) (omega arith) (omega arith) (omega arith) (omega arith)
    ∙ ap (λ (k : ℕ). (k * 0x40 + x / 0x40 % 0x40) * 0x40 + x % 0x40) e ∙ ap (λ (k : ℕ). k * 0x40 + x % 0x40) f ∙ g

pub encoding_code : (x : ℕ) → x ≤ 0x10FFFF → code_point (encoding x) ≡ x
encoding_code x h = go (dec_lt x 0x80) (dec_lt x 0x800) (dec_lt x 0x10000)
  where
    go : Dec (x < 0x80) → Dec (x < 0x800) → Dec (x < 0x10000) → code_point (encoding x) ≡ x
    go (yes a) b c = ap code_point (encoding_1 x a)
    go (no a) (yes b) c = ap code_point (encoding_2 x (omega arith) b) ∙ code_2 x b
    go (no a) (no b) (yes c) = ap code_point (encoding_3 x (omega arith) c) ∙ code_3 x c
    go (no a) (no b) (no c) = ap code_point (encoding_4 x (omega arith)) ∙ code_4 x (omega arith)

-- the bytes of a row of one, two, three and four ranges
module _ (P : List ℕ → Type 0) where
  row_1 : (g : ByteRange) → ((b : ℕ) → Within g b → P (b ∷ [])) → (q : List ℕ) → Fills (g ∷ []) q → P q
  row_1 g k (b ∷ []) f = k b (f.0, f.1)
  row_1 g k (b ∷ c ∷ q) f = absurd f.2
  row_1 g k [] f = elim f [ ]

  row_2 : (g h : ByteRange) → ((b c : ℕ) → Within g b → Within h c → P (b ∷ c ∷ [])) → (q : List ℕ) → Fills (g ∷ h ∷ []) q → P q
  row_2 g h k (b ∷ []) f = absurd f.2
  row_2 g h k (b ∷ c ∷ []) f = k b c (f.0, f.1) (f.2.0, f.2.1)
  row_2 g h k (b ∷ c ∷ d ∷ q) f = absurd f.2.2
  row_2 g h k [] f = elim f [ ]

  row_3 : (g h i : ByteRange) → ((b c d : ℕ) → Within g b → Within h c → Within i d → P (b ∷ c ∷ d ∷ [])) → (q : List ℕ) → Fills (g ∷ h ∷ i ∷ []) q → P q
  row_3 g h i k (b ∷ []) f = absurd f.2
  row_3 g h i k (b ∷ c ∷ []) f = absurd f.2.2
  row_3 g h i k (b ∷ c ∷ d ∷ []) f = k b c d (f.0, f.1) (f.2.0, f.2.1) (f.2.2.0, f.2.2.1)
  row_3 g h i k (b ∷ c ∷ d ∷ e ∷ q) f = absurd f.2.2.2
  row_3 g h i k [] f = elim f [ ]

  row_4 :
      (g h i j : ByteRange) → ((b c d e : ℕ) → Within g b → Within h c → Within i d → Within j e → P (b ∷ c ∷ d ∷ e ∷ []))
      → (q : List ℕ) → Fills (g ∷ h ∷ i ∷ j ∷ []) q → P q
  row_4 g h i j k (b ∷ []) f = absurd f.2
  row_4 g h i j k (b ∷ c ∷ []) f = absurd f.2.2
  row_4 g h i j k (b ∷ c ∷ d ∷ []) f = absurd f.2.2.2
  row_4 g h i j k (b ∷ c ∷ d ∷ e ∷ []) f = k b c d e (f.0, f.1) (f.2.0, f.2.1) (f.2.2.0, f.2.2.1) (f.2.2.2.0, f.2.2.2.1)
  row_4 g h i j k (b ∷ c ∷ d ∷ e ∷ x ∷ q) f = absurd f.2.2.2.2
  row_4 g h i j k [] f = elim f [ ]

-- bytes that are the encoding of what they stand for, and that is in a range
in_range : {g : ByteRange} {q : List ℕ} → q ≡ encoding (code_point q) → Within g (code_point q) → EncodesIn g q
in_range {g} {q} e h = record { code = code_point q; from = h.0; upto = h.1; bytes = e }

-- the encoding of a number fills a row of its length, if its first bytes are in the ranges of the row
fills_2 : (g : ByteRange) (x : ℕ) → 0x80 ≤ x → x < 0x800 → Within g (0xC0 + x / 0x40) → Fills (g ∷ 0x80 to 0xBF ∷ []) (encoding x)
fills_2 g x l h u = rw (encoding_2 x l h) (u.0, u.1, (omega arith, omega arith, tt))

fills_3 :
    (g h : ByteRange) (x : ℕ) → 0x800 ≤ x → x < 0x10000 → Within g (0xE0 + x / 0x1000) → Within h (0x80 + x / 0x40 % 0x40)
    → Fills (g ∷ h ∷ 0x80 to 0xBF ∷ []) (encoding x)
fills_3 g h x l k u v = rw (encoding_3 x l k) (u.0, u.1, (v.0, v.1, (omega arith, omega arith, tt)))

fills_4 :
    (g h : ByteRange) (x : ℕ) → 0x10000 ≤ x → Within g (0xF0 + x / 0x40000) → Within h (0x80 + x / 0x1000 % 0x40)
    → Fills (g ∷ h ∷ 0x80 to 0xBF ∷ 0x80 to 0xBF ∷ []) (encoding x)
fills_4 g h x l u v = rw (encoding_4 x l) (u.0, u.1, (v.0, v.1, (omega arith, omega arith, (omega arith, omega arith, tt))))

scalar_below : (x : ℕ) → x < 0xD800 → is_scalar x ≡ true
scalar_below x h = means_scalar x true (below_surrogates h)

scalar_above : (x : ℕ) → 0xE000 ≤ x → x ≤ 0x10FFFF → is_scalar x ≡ true
scalar_above x h l = means_scalar x true (above_surrogates h l)

-- what holds of each row: what fills it is the encoding of one of its code points, their encodings fill it, and they are scalar values
record RowHolds (r : TableRow) : Type 0 where
  reads : (q : List ℕ) → Fills r.bytes q → EncodesIn r.codes q
  writes : (x : ℕ) → Within r.codes x → Fills r.bytes (encoding x)
  scalars : (x : ℕ) → Within r.codes x → is_scalar x ≡ true

-- .. of row number k
abbrev HoldsAt : List TableRow → ℕ → Type 0
HoldsAt [] k = Unit {0}
HoldsAt (r ∷ rs) zero = RowHolds r
HoldsAt (r ∷ rs) (suc k) = HoldsAt rs k

holds_1 : HoldsAt table 0
holds_1 = record {
  reads = row_1 (EncodesIn _) _ (λ b u. in_range (sym (encoding_1 b (omega arith))) u);
  writes = λ x u. rw (encoding_1 x (omega arith)) (u.0, u.1, tt);
  scalars = λ x u. scalar_below x (omega arith);
}

holds_2 : HoldsAt table 1
holds_2 = record {
  reads = row_2 (EncodesIn _) _ _ (λ b c u v. in_range (encodes_2 b c u v) (omega arith, omega arith));
  writes = λ x u. fills_2 _ x (omega arith) (omega arith) (omega arith, omega arith);
  scalars = λ x u. scalar_below x (omega arith);
}

-- rows of three bytes, and of four
module _ (c g h : ByteRange) where
  holds_3 :
      0x800 ≤ c.low → c.high < 0x10000 → 0xE0 ≤ g.low → g.high ≤ 0xEF → 0x80 ≤ h.low → h.high ≤ 0xBF
      → ((b d e : ℕ) → Within g b → Within h d → Within (0x80 to 0xBF) e → Within c (code_point (b ∷ d ∷ e ∷ [])))
      → ((x : ℕ) → Within c x → Within g (0xE0 + x / 0x1000) × Within h (0x80 + x / 0x40 % 0x40) × (is_scalar x ≡ true))
      → RowHolds (row c (g ∷ h ∷ 0x80 to 0xBF ∷ []))
  holds_3 cl ch gl gh hl hh r w = record {
    reads =
        row_3 (EncodesIn c) g h (0x80 to 0xBF)
        (λ b d e u v z. (let k = r b d e u v z in in_range (encodes_3 b d e (omega arith, omega arith) (omega arith, omega arith) z (omega arith)) k));
    writes = λ x u. fills_3 g h x (omega arith) (omega arith) (w x u).0 (w x u).1;
    scalars = λ x u. (w x u).2;
  }

  holds_4 :
      0x10000 ≤ c.low → 0xF0 ≤ g.low → g.high ≤ 0xF7 → 0x80 ≤ h.low → h.high ≤ 0xBF
      → ((b d e f : ℕ) → Within g b → Within h d → Within (0x80 to 0xBF) e → Within (0x80 to 0xBF) f → Within c (code_point (b ∷ d ∷ e ∷ f ∷ [])))
      → ((x : ℕ) → Within c x → Within g (0xF0 + x / 0x40000) × Within h (0x80 + x / 0x1000 % 0x40) × (is_scalar x ≡ true))
      → RowHolds (row c (g ∷ h ∷ 0x80 to 0xBF ∷ 0x80 to 0xBF ∷ []))
  holds_4 cl gl gh hl hh r w = record {
    reads =
        row_4 (EncodesIn c) g h (0x80 to 0xBF) (0x80 to 0xBF)
        (λ b d e f u v y z. (let k = r b d e f u v y z in in_range (encodes_4 b d e f (omega arith, omega arith) (omega arith, omega arith) y z (omega arith)) k));
    writes = λ x u. fills_4 g h x (omega arith) (w x u).0 (w x u).1;
    scalars = λ x u. (w x u).2;
  }

-- one line for each row of Table 3-7
table_holds : (k : ℕ) → HoldsAt table k
table_holds zero = holds_1
table_holds (suc zero) = holds_2
table_holds (suc (suc zero)) = holds_3 _ _ _ (omega arith) (omega arith) (omega arith) (omega arith) (omega arith) (omega arith) (λ b d e u v w. (omega arith, omega arith)) (λ x u. ((omega arith, omega arith), (omega arith, omega arith), scalar_below x (omega arith)))
table_holds (suc (suc (suc zero))) = holds_3 _ _ _ (omega arith) (omega arith) (omega arith) (omega arith) (omega arith) (omega arith) (λ b d e u v w. (omega arith, omega arith)) (λ x u. ((omega arith, omega arith), (omega arith, omega arith), scalar_below x (omega arith)))
table_holds (suc (suc (suc (suc zero)))) = holds_3 _ _ _ (omega arith) (omega arith) (omega arith) (omega arith) (omega arith) (omega arith) (λ b d e u v w. (omega arith, omega arith)) (λ x u. ((omega arith, omega arith), (omega arith, omega arith), scalar_below x (omega arith)))
table_holds (suc (suc (suc (suc (suc zero))))) = holds_3 _ _ _ (omega arith) (omega arith) (omega arith) (omega arith) (omega arith) (omega arith) (λ b d e u v w. (omega arith, omega arith)) (λ x u. ((omega arith, omega arith), (omega arith, omega arith), scalar_above x (omega arith) (omega arith)))
table_holds (suc (suc (suc (suc (suc (suc zero)))))) = holds_4 _ _ _ (omega arith) (omega arith) (omega arith) (omega arith) (omega arith) (λ b d e f u v w z. (omega arith, omega arith)) (λ x u. ((omega arith, omega arith), (omega arith, omega arith), scalar_above x (omega arith) (omega arith)))
table_holds (suc (suc (suc (suc (suc (suc (suc zero))))))) = holds_4 _ _ _ (omega arith) (omega arith) (omega arith) (omega arith) (omega arith) (λ b d e f u v w z. (omega arith, omega arith)) (λ x u. ((omega arith, omega arith), (omega arith, omega arith), scalar_above x (omega arith) (omega arith)))
table_holds (suc (suc (suc (suc (suc (suc (suc (suc zero)))))))) = holds_4 _ _ _ (omega arith) (omega arith) (omega arith) (omega arith) (omega arith) (λ b d e f u v w z. (omega arith, omega arith)) (λ x u. ((omega arith, omega arith), (omega arith, omega arith), scalar_above x (omega arith) (omega arith)))
table_holds (suc (suc (suc (suc (suc (suc (suc (suc (suc k))))))))) = tt

reads_at : (rs : List TableRow) (k : ℕ) (q : List ℕ) → HoldsAt rs k → FillsAt (byte_columns rs) k q → EncodesAt rs k q
reads_at (r ∷ rs) zero q a f = a.reads q f
reads_at (r ∷ rs) (suc k) q a f = reads_at rs k q a f
reads_at [] k q a f = elim f [ ]

writes_at : (rs : List TableRow) (k : ℕ) (q : List ℕ) → HoldsAt rs k → EncodesAt rs k q → FillsAt (byte_columns rs) k q
writes_at (r ∷ rs) zero q a e = subst (Fills r.bytes) (sym e.bytes) (a.writes e.code (e.from, e.upto))
writes_at (r ∷ rs) (suc k) q a e = writes_at rs k q a e
writes_at [] k q a e = elim e [ ]

scalar_at : (rs : List TableRow) (k : ℕ) (q : List ℕ) → HoldsAt rs k → EncodesAt rs k q → Encodes q
scalar_at (r ∷ rs) zero q a e = record { code = e.code; scalar = a.scalars e.code (e.from, e.upto); bytes = e.bytes }
scalar_at (r ∷ rs) (suc k) q a e = scalar_at rs k q a e
scalar_at [] k q a e = elim e [ ]

-- the sequences that fill a row of Table 3-7 are exactly the encodings of its code points
pub row_encodes : (k : ℕ) (q : List ℕ) → FillsAt rows k q → EncodesAt table k q
row_encodes k q f = reads_at table k q (table_holds k) f

pub encodes_row : (k : ℕ) (q : List ℕ) → EncodesAt table k q → FillsAt rows k q
encodes_row k q e = writes_at table k q (table_holds k) e

-- a sequence fills a row
record InRow (rs : List Row) (q : List ℕ) : Type 0 where
  number : ℕ
  fills : FillsAt rs number q

row_of : (rs : List Row) (q : List ℕ) → FillsSome rs q → InRow rs q
row_of (r ∷ rs) q (inl f) = record { number = 0; fills = f }
row_of (r ∷ rs) q (inr f) = let i = row_of rs q f in record { number = suc i.number; fills = i.fills }
row_of [] q x' = elim x' [ ]

in_some : (rs : List Row) (k : ℕ) (q : List ℕ) → FillsAt rs k q → FillsSome rs q
in_some (r ∷ rs) zero q f = inl f
in_some (r ∷ rs) (suc k) q f = inr (in_some rs k q f)
in_some [] k q f = elim f [ ]

pub row_sequence : (k : ℕ) (q : List ℕ) → FillsAt rows k q → Sequence q
unfolding Sequence
row_sequence k q f = in_some rows k q f

-- .. and only one, since the rows' first bytes rise
pub rises : (rs : List Row) (m b : ℕ) (q : List ℕ) → rising m rs ≡ true → FillsSome rs (b ∷ q) → m ≤ b
rises ([] ∷ rs) m b q t f = impossible (cc)
rises ((g ∷ gs) ∷ rs) m b q t (inl f) = let p = rising_parts m g gs rs t in omega arith
rises ((g ∷ gs) ∷ rs) m b q t (inr f) = let p = rising_parts m g gs rs t in omega (arith, rises rs (suc g.high) b q p.2 f)
rises [] m b q t f = elim f [ ]

same_row : (rs : List Row) (m i j : ℕ) (q : List ℕ) → rising m rs ≡ true → FillsAt rs i q → FillsAt rs j q → i ≡ j
same_row ([] ∷ rs) m i j q t e f = impossible (cc)
same_row ((g ∷ gs) ∷ rs) m zero zero q t e f = refl
same_row ((g ∷ gs) ∷ rs) m zero (suc j) (b ∷ q) t e f =
    let p = rising_parts m g gs rs t in
    absurd (omega (arith, e.1, rises rs (suc g.high) b q p.2 (in_some rs j (b ∷ q) f)))
same_row ((g ∷ gs) ∷ rs) m (suc i) zero (b ∷ q) t e f =
    let p = rising_parts m g gs rs t in
    absurd (omega (arith, f.1, rises rs (suc g.high) b q p.2 (in_some rs i (b ∷ q) e)))
same_row ((g ∷ gs) ∷ rs) m (suc i) (suc j) q t e f = ap suc (same_row rs (suc g.high) i j q (rising_parts m g gs rs t).2 e f)
same_row [] m i j q t e f = elim e [ ]
same_row ((g ∷ gs) ∷ rs) m zero (suc j) [] t e f = elim e [ ]
same_row ((g ∷ gs) ∷ rs) m (suc i) zero [] t e f = elim f [ ]

pub one_row : (q : List ℕ) → Sequence q → OneRow q
unfolding Sequence
one_row q f =
    let i = row_of rows q f in
    record { number = i.number; fills = i.fills; only = λ k g. same_row rows 0 k i.number q refl g i.fills }

-- the sequences that fill a row are exactly the encodings of the scalar values
pub sequence_encodes : (q : List ℕ) → Sequence q → Encodes q
sequence_encodes q f = let r = one_row q f in scalar_at table r.number q (table_holds r.number) (row_encodes r.number q r.fills)

-- every scalar value is in a row
module _ (x : ℕ) where
  at_row : (k : ℕ) → EncodesAt table k (encoding x) → Sequence (encoding x)
  at_row k e = row_sequence k (encoding x) (encodes_row k (encoding x) e)

  scalar_in : ScalarMeans x true → Sequence (encoding x)
  scalar_in (below_surrogates h) = go (dec_lt x 0x80) (dec_lt x 0x800) (dec_lt x 0x1000) (dec_lt x 0xD000)
    where
      go : Dec (x < 0x80) → Dec (x < 0x800) → Dec (x < 0x1000) → Dec (x < 0xD000) → Sequence (encoding x)
      go (yes a) b c d = at_row 0 (record { code = x; from = omega arith; upto = omega arith; bytes = refl })
      go (no a) (yes b) c d = at_row 1 (record { code = x; from = omega arith; upto = omega arith; bytes = refl })
      go (no a) (no b) (yes c) d = at_row 2 (record { code = x; from = omega arith; upto = omega arith; bytes = refl })
      go (no a) (no b) (no c) (yes d) = at_row 3 (record { code = x; from = omega arith; upto = omega arith; bytes = refl })
      go (no a) (no b) (no c) (no d) = at_row 4 (record { code = x; from = omega arith; upto = omega arith; bytes = refl })
  scalar_in (above_surrogates l h) = go (dec_lt x 0x10000) (dec_lt x 0x40000) (dec_lt x 0x100000)
    where
      go : Dec (x < 0x10000) → Dec (x < 0x40000) → Dec (x < 0x100000) → Sequence (encoding x)
      go (yes a) b c = at_row 5 (record { code = x; from = omega arith; upto = omega arith; bytes = refl })
      go (no a) (yes b) c = at_row 6 (record { code = x; from = omega arith; upto = omega arith; bytes = refl })
      go (no a) (no b) (yes c) = at_row 7 (record { code = x; from = omega arith; upto = omega arith; bytes = refl })
      go (no a) (no b) (no c) = at_row 8 (record { code = x; from = omega arith; upto = omega arith; bytes = refl })

  pub encoding_sequence : is_scalar x ≡ true → Sequence (encoding x)
  encoding_sequence s = scalar_in (scalar_means x true s)

pub encodes_sequence : (q : List ℕ) → Encodes q → Sequence q
encodes_sequence q e = subst Sequence (sym e.bytes) (encoding_sequence e.code e.scalar)

-- what a sequence stands for is the scalar value whose encoding it is
pub encodes_code : {q : List ℕ} (e : Encodes q) → code_point q ≡ e.code
encodes_code e = ap code_point e.bytes ∙ encoding_code e.code (scalar_le e.code e.scalar)

pub sequence_encoding : (q : List ℕ) → Sequence q → encoding (code_point q) ≡ q
sequence_encoding q f = let e = sequence_encodes q f in ap encoding (encodes_code e) ∙ sym e.bytes

-- each scalar value has exactly one encoding, and no two have the same
pub one_encoding : (x : ℕ) → is_scalar x ≡ true → OneEncoding x
one_encoding x s =
    record {
      sequence = encoding_sequence x s;
      code = encoding_code x (scalar_le x s);
      only = λ q f e. sym (sequence_encoding q f) ∙ ap encoding e;
    }

pub encoding_unique : (x y : ℕ) → x ≤ 0x10FFFF → y ≤ 0x10FFFF → encoding x ≡ encoding y → x ≡ y
encoding_unique x y h l e = sym (encoding_code x h) ∙ ap code_point e ∙ encoding_code y l
