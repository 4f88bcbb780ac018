-- The step at the head of a text and the sequences of Table 3-7: each finds the other, and nothing else.
-- Assumes nothing.
use Prim.Native.Nat.{ℕ, zero, suc, ◌+◌, ◌/◌, ◌%◌, ◌≤◌, ◌<◌}
use mathlib.Core.Path.{◌≡◌, refl, sym, ap, subst, ◌∙◌}
use mathlib.Core.Bool.{Bool, true, false, false≢true, cond}
use mathlib.Core.List.{List, [], ◌∷◌, ◌++◌, append-nil}
use mathlib.Core.Logic.{inl, inr}
use native.Mathlib.Omega.{arith}
use native.Mathlib.Decide.{dec_lt}
use lib.ListN.{length, take, drop, get_or, length-append, length-take, take-append-drop}
use lib.Dec.{leb, ltb}
use borrow.Author.Tests.{leb-true, ltb-true, lt-ltb, le-ltb, le-leb, lt-leb}
use Rattle.lists.proofs.BoolLaws.{and_left, and_right, impossible}
use Rattle.utf8.specs.declared.Step.{Step}
use Rattle.utf8.specs.declared.Step.TheVariants.{Scalar, IllFormed, End}
use Rattle.utf8.specs.Scalar.{is_scalar}
use Rattle.utf8.specs.Table.{Row, rows, inside, fits, Fills, FillsSome, Sequence}
use Rattle.utf8.specs.Encoding.{encoding, code_point}
use Rattle.utf8.specs.Subpart.{subpart_of, Subpart, MaximalSubpart}
use Rattle.utf8.specs.Lead.{known_length, is_trail}
use Rattle.utf8.specs.Head.{step_in, step_of, IllHead, NoSequence, StepMeans, sequence, no_sequence, empty}
use Rattle.utf8.proofs.ScalarLaws.{scalar_le}
use Rattle.utf8.proofs.TableLaws.{inside_in, inside_out, inside_above}
use Rattle.utf8.proofs.SubpartLaws.{subpart_means, subpart_unique}
use Rattle.utf8.proofs.LeadLaws.{rising, rising_parts, at_end}
use Rattle.utf8.proofs.EncodingLaws.{rises, encoding_1, encoding_2, encoding_3, encoding_4, encoding_code, encoding_sequence, sequence_encodes, encodes_code, sequence_encoding}

-- the length that a first byte tells
known_1 : (b : ℕ) → b < 0x80 → 1 ≡ known_length b
unfolding known_length
known_1 b h = rw (lt-ltb b 0x80 h)

pub known_2 : (b : ℕ) → 0x80 ≤ b → b < 0xE0 → 2 ≡ known_length b
unfolding known_length
known_2 b h l = rw (le-ltb b 0x80 h, lt-ltb b 0xE0 l)

pub known_3 : (b : ℕ) → 0xE0 ≤ b → b < 0xF0 → 3 ≡ known_length b
unfolding known_length
known_3 b h l = rw (le-ltb b 0x80 (omega arith), le-ltb b 0xE0 h, lt-ltb b 0xF0 l)

pub known_4 : (b : ℕ) → 0xF0 ≤ b → 4 ≡ known_length b
unfolding known_length
known_4 b h = rw (le-ltb b 0x80 (omega arith), le-ltb b 0xE0 (omega arith), le-ltb b 0xF0 h)

pub known_bounds : (b : ℕ) → (1 ≤ known_length b) × (known_length b ≤ 4)
unfolding known_length
known_bounds b = go (ltb b 0x80) (ltb b 0xE0) (ltb b 0xF0)
  where
    go : (x y z : Bool) → (1 ≤ cond x 1 (cond y 2 (cond z 3 4))) × (cond x 1 (cond y 2 (cond z 3 4)) ≤ 4)
    go true y z = (omega arith, omega arith)
    go false true z = (omega arith, omega arith)
    go false false true = (omega arith, omega arith)
    go false false false = (omega arith, omega arith)

-- what the bytes q of a code point x tell: the first their number, and, up to FFFF, the upper bits of x; which byte is the first
pub record Right (q : List ℕ) (x : ℕ) : Type 0 where
  pub long : length q ≡ known_length (get_or q 0 0)
  pub ascii : x < 0x80 → get_or q 0 0 ≡ x
  pub two : 0x80 ≤ x → x < 0x800 → get_or q 0 0 ≡ 0xC0 + x / 0x40
  pub three : 0x800 ≤ x → x < 0x10000 → get_or q 0 0 ≡ 0xE0 + x / 0x1000
  pub first : is_trail (get_or q 0 0) ≡ false
  pub others : (i : ℕ) → 0 < i → i < length q → is_trail (get_or q i 0) ≡ true

-- bytes that follow others
trail : (y : ℕ) → y < 0x40 → is_trail (0x80 + y) ≡ true
trail y h = rw (le-leb 0x80 (0x80 + y) (omega arith), lt-ltb (0x80 + y) 0xC0 (omega arith))

pub trail_range : (b : ℕ) → is_trail b ≡ true → (0x80 ≤ b) × (b < 0xC0)
trail_range b e = (leb-true 0x80 b (and_left (leb 0x80 b) (ltb b 0xC0) e), ltb-true b 0xC0 (and_right (leb 0x80 b) (ltb b 0xC0) e))

low_lead : (b : ℕ) → b < 0x80 → is_trail b ≡ false
low_lead b h = rw (lt-leb 0x80 b h)

high_lead : (b : ℕ) → 0xC0 ≤ b → is_trail b ≡ false
high_lead b h = rw (le-leb 0x80 b (omega arith), le-ltb b 0xC0 h)

abbrev AllTrail : List ℕ → Type 0
AllTrail [] = Unit {0}
AllTrail (b ∷ q) = (is_trail b ≡ true) × AllTrail q

all_trail : (q : List ℕ) → AllTrail q → (i : ℕ) → i < length q → is_trail (get_or q i 0) ≡ true
all_trail (b ∷ q) a zero h = a.0
all_trail (b ∷ q) a (suc i) h = all_trail q a.1 i (omega arith)
all_trail [] a i h = elim h [ ]

after_first : (b : ℕ) (q : List ℕ) → AllTrail q → (i : ℕ) → 0 < i → i < length (b ∷ q) → is_trail (get_or (b ∷ q) i 0) ≡ true
after_first b q a zero h l = absurd (omega arith)
after_first b q a (suc i) h l = all_trail q a i (omega arith)

-- one case for each row of Table 3-6
right : (x : ℕ) → x ≤ 0x10FFFF → Right (encoding x) x
right x m = go (dec_lt x 0x80) (dec_lt x 0x800) (dec_lt x 0x10000)
  where
    go : Dec (x < 0x80) → Dec (x < 0x800) → Dec (x < 0x10000) → Right (encoding x) x
    go (yes a) b c =
        rw (encoding_1 x a)
        (record {
          long = known_1 x a;
          ascii = λ h. refl;
          two = λ h l. absurd (omega arith);
          three = λ h l. absurd (omega arith);
          first = low_lead x a;
          others = λ i h l. absurd (omega arith);
        })
    go (no a) (yes b) c =
        rw (encoding_2 x (omega arith) b)
        (record {
          long = known_2 _ (omega arith) (omega arith);
          ascii = λ h. absurd (omega arith);
          two = λ h l. refl;
          three = λ h l. absurd (omega arith);
          first = high_lead (0xC0 + x / 0x40) (omega arith);
          others = after_first _ ((0x80 + x % 0x40) ∷ []) (trail (x % 0x40) (omega arith), tt);
        })
    go (no a) (no b) (yes c) =
        rw (encoding_3 x (omega arith) c)
        (record {
          long = known_3 _ (omega arith) (omega arith);
          ascii = λ h. absurd (omega arith);
          two = λ h l. absurd (omega arith);
          three = λ h l. refl;
          first = high_lead (0xE0 + x / 0x1000) (omega arith);
          others = after_first _ ((0x80 + x / 0x40 % 0x40) ∷ (0x80 + x % 0x40) ∷ []) (trail (x / 0x40 % 0x40) (omega arith), (trail (x % 0x40) (omega arith), tt));
        })
    go (no a) (no b) (no c) =
        rw (encoding_4 x (omega arith))
        (record {
          long = known_4 _ (omega arith);
          ascii = λ h. absurd (omega arith);
          two = λ h l. absurd (omega arith);
          three = λ h l. absurd (omega arith);
          first = high_lead (0xF0 + x / 0x40000) (omega arith);
          others = after_first _ ((0x80 + x / 0x1000 % 0x40) ∷ (0x80 + x / 0x40 % 0x40) ∷ (0x80 + x % 0x40) ∷ []) (trail (x / 0x1000 % 0x40) (omega arith), (trail (x / 0x40 % 0x40) (omega arith), (trail (x % 0x40) (omega arith), tt)));
        })

pub sequence_scalar : (q : List ℕ) → Sequence q → is_scalar (code_point q) ≡ true
sequence_scalar q f = let e = sequence_encodes q f in ap is_scalar (encodes_code e) ∙ e.scalar

pub sequence_right : (q : List ℕ) → Sequence q → Right q (code_point q)
sequence_right q f =
    subst (λ (u : List ℕ). Right u (code_point q)) (sequence_encoding q f) (right (code_point q) (scalar_le (code_point q) (sequence_scalar q f)))

pub sequence_length : (q : List ℕ) → Sequence q → (0 < length q) × (length q ≤ 4)
sequence_length q f = let l = (sequence_right q f).long in (omega (arith, (known_bounds (get_or q 0 0)).0), omega (arith, (known_bounds (get_or q 0 0)).1))

pub not_empty : Sequence [] → ⊥
not_empty f = let l = sequence_length [] f in omega arith

-- a row and the bytes that fill it
fills_fits : (gs : Row) (q t : List ℕ) → Fills gs q → (fits gs (q ++ t) ≡ true) × (length gs ≡ length q) × (take (length gs) (q ++ t) ≡ q)
fills_fits [] [] t f = (refl, refl, refl)
fills_fits (g ∷ gs) (b ∷ q) t f =
    let h = fills_fits gs q t f.2 in
    (rw (inside_in g b f.0 f.1, h.0), ap suc h.1, ap (λ (l : List ℕ). b ∷ l) h.2)
fills_fits [] (b ∷ q) t f = elim f [ ]
fills_fits (g ∷ gs) [] t f = elim f [ ]

fits_fills : (gs : Row) (s : List ℕ) → fits gs s ≡ true → Fills gs (take (length gs) s) × (length gs ≡ length (take (length gs) s))
fits_fills [] s e = (tt, refl)
fits_fills (g ∷ gs) [] e = absurd (false≢true e)
fits_fills (g ∷ gs) (b ∷ s) e =
    let o = inside_out g b (and_left (inside g b) (fits gs s) e) in
    let h = fits_fills gs s (and_right (inside g b) (fits gs s) e) in
    ((o.0, o.1, h.0), ap suc h.1)

-- what a step says of the bytes at the head; it never says that nothing is left
abbrev Found : List Row → List ℕ → Step → Type 0
Found rs s (Scalar x n) = FillsSome rs (take n s) × (x ≡ code_point (take n s)) × (n ≡ length (take n s))
Found rs s (IllFormed n) = n ≡ subpart_of s
Found rs s End = ⊥

later_row : (r : Row) (rs : List Row) (s : List ℕ) (t : Step) → Found rs s t → Found (r ∷ rs) s t
later_row r rs s (Scalar x n) f = (inr f.0, f.1, f.2)
later_row r rs s (IllFormed n) f = f
later_row r rs s End f = elim f [ ]

found : (rs : List Row) (s : List ℕ) → Found rs s (step_in rs s)
found [] s = refl
found (r ∷ rs) s = go (found rs s) (fits r s) refl
  where
    go :
        Found rs s (step_in rs s) → (t : Bool) → fits r s ≡ t
        → Found (r ∷ rs) s (cond t (Scalar (code_point (take (length r) s)) (length r)) (step_in rs s))
    go ih true e = let h = fits_fills r s e in (inl h.0, refl, h.1)
    go ih false e = later_row r rs s (step_in rs s) ih

finds :
    (rs : List Row) (m b : ℕ) (q t : List ℕ) → rising m rs ≡ true → FillsSome rs (b ∷ q)
    → step_in rs (b ∷ (q ++ t)) ≡ Scalar (code_point (b ∷ q)) (length (b ∷ q))
finds ([] ∷ rs) m b q t r f = impossible (cc)
finds ((g ∷ gs) ∷ rs) m b q t r (inl f) =
    let h = fills_fits (g ∷ gs) (b ∷ q) t f in
    rw h.0 (λ i. Scalar (code_point (b ∷ take (length gs) (q ++ t))) (suc (length gs))) ∙ (λ i. Scalar (code_point (h.2 i)) (h.1 i))
finds ((g ∷ gs) ∷ rs) m b q t r (inr f) =
    let p = rising_parts m g gs rs r in
    rw (inside_above g b (rises rs (suc g.high) b q p.2 f)) (finds rs (suc g.high) b q t p.2 f)
finds [] m b q t r f = elim f [ ]

-- no sequence begins where nothing is left
pub none_empty : (s : List ℕ) → s ≡ [] → NoSequence s
none_empty s e [] r p f = not_empty f
none_empty s e (b ∷ q) r p f = impossible (cc)

-- a sequence is found wherever it stands at the head, whatever follows
pub step_of_sequence : (q t : List ℕ) → Sequence q → step_of (q ++ t) ≡ Scalar (code_point q) (length q)
unfolding step_of Sequence
step_of_sequence [] t f = absurd (not_empty f)
step_of_sequence (b ∷ q) t f = finds rows 0 b q t refl f

-- .. so each scalar value is read back from its encoding
pub step_of_encoding : (x : ℕ) (t : List ℕ) → is_scalar x ≡ true → step_of (encoding x ++ t) ≡ Scalar x (length (encoding x))
step_of_encoding x t s =
    step_of_sequence (encoding x) t (encoding_sequence x s) ∙ (λ i. Scalar (encoding_code x (scalar_le x s) i) (length (encoding x)))

-- what is found is the sequence of the bytes taken
pub record IsSequence (s : List ℕ) (x n : ℕ) : Type 0 where
  pub sequence : Sequence (take n s)
  pub code : x ≡ code_point (take n s)
  pub long : n ≡ length (take n s)

pub sequence_of_step : (s : List ℕ) (x n : ℕ) → step_of s ≡ Scalar x n → IsSequence s x n
unfolding step_of Sequence
sequence_of_step [] x n e = impossible (cc)
sequence_of_step (b ∷ s) x n e =
    let f : Found rows (b ∷ s) (Scalar x n) = rw e at (found rows (b ∷ s)) in
    record { sequence = f.0; code = f.1; long = f.2 }

-- ill-formed with whatever length is ill-formed with the maximal subpart's
ill_head : (s : List ℕ) (n : ℕ) → step_of s ≡ IllFormed n → n ≡ subpart_of s
unfolding step_of
ill_head [] n e = impossible (cc)
ill_head (b ∷ s) n e = rw e at (found rows (b ∷ s))

pub ill_at : (s : List ℕ) (n : ℕ) → step_of s ≡ IllFormed n → IllHead s
ill_at s n e = e ∙ ap IllFormed (ill_head s n e)

-- where the head is ill-formed no sequence begins
pub no_sequence_at : (s : List ℕ) → IllHead s → NoSequence s
no_sequence_at s e q r p f =
    let g = step_of_sequence q r f in
    let h = ap step_of p in
    impossible (cc)

pub end_empty : (s : List ℕ) → step_of s ≡ End → s ≡ []
unfolding step_of
end_empty [] e = refl
end_empty (b ∷ s) e = absurd (rw e at (found rows (b ∷ s)))

pub step_empty : step_of [] ≡ End
step_empty = sym (at_end [] refl)

pub ill_not_empty : (s : List ℕ) → IllHead s → 0 < length s
ill_not_empty [] e = let f = step_empty in impossible (cc)
ill_not_empty (b ∷ s) e = omega arith

-- each step, exactly when
pub step_means : (s : List ℕ) (t : Step) → step_of s ≡ t → StepMeans s t
step_means s (Scalar x n) e =
    let f = sequence_of_step s x n e in
    sequence (take n s) (drop n s) (sym (take-append-drop n s)) f.sequence f.code f.long
step_means s (IllFormed n) e =
    let i = ill_at s n e in
    let l = ill_not_empty s i in
    no_sequence l (no_sequence_at s i) (subst (MaximalSubpart s) (sym (ill_head s n e)) (subpart_means s l))
step_means s End e = empty (end_empty s e)

pub means_step : (s : List ℕ) (t : Step) → StepMeans s t → step_of s ≡ t
means_step s t (sequence q r p f c l) = ap step_of p ∙ step_of_sequence q r f ∙ (λ i. Scalar (sym c i) (sym l i))
means_step s t (no_sequence {n = m} h n x) = go (step_of s) (step_means s (step_of s) refl)
  where
    go : (u : Step) → StepMeans s u → u ≡ IllFormed m
    go u (sequence q r p f c l) = absurd (n q r p f)
    go u (no_sequence k o y) = ap IllFormed (subpart_unique y x)
    go u (empty e) = let l = ap length e in absurd (omega arith)
means_step s t (empty e) = ap step_of e ∙ step_empty

-- a maximal subpart where no sequence begins has one to three bytes, all within the text
pub record SubpartBounds (s : List ℕ) (n : ℕ) : Type 0 where
  pub some_bytes : 1 ≤ n
  pub short : n ≤ 3
  pub within : n ≤ length s

pub subpart_bounds : {s : List ℕ} {n : ℕ} → 0 < length s → NoSequence s → MaximalSubpart s n → SubpartBounds s n
subpart_bounds {s} {n} h none m =
    record { some_bytes = at_least; short = go m.subpart; within = let w = ap length m.whole in omega (arith, length-append m.bytes m.others, m.long) }
  where
    at_least : 1 ≤ n
    at_least =
        let l = m.longest (take 1 s) (drop 1 s) (sym (take-append-drop 1 s)) (inr (simp length-take (omega arith))) in
        omega (arith, simp length-take at l)

    go : Subpart m.bytes → n ≤ 3
    go (inr e) = omega (arith, m.long)
    go (inl i) = by_others i.others i.sequence
      where
        by_others : (o : List ℕ) → Sequence (m.bytes ++ o) → n ≤ 3
        by_others [] f = absurd (none m.bytes m.others m.whole (rw append-nil at f))
        by_others (b ∷ o) f = omega (arith, (sequence_length (m.bytes ++ (b ∷ o)) f).1, length-append m.bytes (b ∷ o), m.long)
