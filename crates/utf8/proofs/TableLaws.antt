-- Bytes and rows of Table 3-7: whether a byte is in a range, and whether a text begins with the bytes of a row, byte by byte.
-- Assumes nothing.
use Prim.Native.Nat.{ℕ, zero, suc, ◌+◌, ◌≤◌, ◌<◌}
use mathlib.Core.Path.{◌≡◌, refl, sym, ap, ◌∙◌}
use mathlib.Core.Bool.{Bool, true, false, false≢true, ◌&&◌, cond}
use mathlib.Core.List.{List, [], ◌∷◌}
use native.Mathlib.Omega.{arith}
use lib.Dec.{leb, ltb}
use lib.ListN.{length, take, drop, get_or, drop_of_length-le}
use lib.Seq.{drop-cons}
use borrow.Author.Tests.{leb-true, le-leb, lt-leb, lt-ltb, ltb-true, ltb-false}
use Rattle.lists.proofs.BoolLaws.{and_left, and_right}
use Rattle.utf8.specs.Table.{ByteRange, Row, inside, fits}
use Rattle.utf8.specs.Subpart.{begun}
use Rattle.utf8.specs.Lead.{byte_fits}

pub inside_in : (g : ByteRange) (b : ℕ) → g.low ≤ b → b ≤ g.high → inside g b ≡ true
inside_in g b l h = rw (le-leb g.low b l, le-leb b g.high h)

pub inside_out : (g : ByteRange) (b : ℕ) → inside g b ≡ true → (g.low ≤ b) × (b ≤ g.high)
inside_out g b e =
    (leb-true g.low b (and_left (leb g.low b) (leb b g.high) e), leb-true b g.high (and_right (leb g.low b) (leb b g.high) e))

pub inside_above : (g : ByteRange) (b : ℕ) → g.high < b → inside g b ≡ false
inside_above g b h = rw (lt-leb b g.high h) (go (leb g.low b))
  where
    go : (t : Bool) → (t && false) ≡ false
    go true = refl
    go false = refl

pub inside_below : (g : ByteRange) (b : ℕ) → b < g.low → inside g b ≡ false
inside_below g b h = rw (lt-leb g.low b h)

-- byte i of a text, and the row from byte i on
module _ (g : ByteRange) (gs : Row) (s : List ℕ) (i : ℕ) where
  byte_here : i < length s → byte_fits g s i ≡ inside g (get_or s i 0)
  unfolding byte_fits
  byte_here h = rw (lt-ltb i (length s) h)

  pub byte_there : byte_fits g s i ≡ true → i < length s
  unfolding byte_fits
  byte_there e = ltb-true i (length s) (and_left (ltb i (length s)) (inside g (get_or s i 0)) e)

  fits_step : i < length s → fits (g ∷ gs) (drop i s) ≡ (inside g (get_or s i 0) && fits gs (drop (suc i) s))
  fits_step h = ap (fits (g ∷ gs)) (drop-cons s i 0 h)

  pub fits_in : byte_fits g s i ≡ true → fits (g ∷ gs) (drop i s) ≡ fits gs (drop (suc i) s)
  fits_in e = let h = byte_there e in fits_step h ∙ rw (sym (byte_here h) ∙ e)

  pub fits_out : byte_fits g s i ≡ false → fits (g ∷ gs) (drop i s) ≡ false
  unfolding byte_fits
  fits_out e = go (ltb i (length s)) refl
    where
      go : (t : Bool) → ltb i (length s) ≡ t → fits (g ∷ gs) (drop i s) ≡ false
      go true f = let h = ltb-true i (length s) f in fits_step h ∙ rw (sym (byte_here h) ∙ e)
      go false f = ap (fits (g ∷ gs)) (drop_of_length-le s (let z : length s ≤ i = omega (arith, ltb-false i (length s) f) in z))

  -- the same for how many bytes of the row stand there
  begun_step : i < length s → begun (g ∷ gs) (drop i s) ≡ cond (inside g (get_or s i 0)) (suc (begun gs (drop (suc i) s))) 0
  begun_step h = ap (begun (g ∷ gs)) (drop-cons s i 0 h)

  pub begun_in : byte_fits g s i ≡ true → begun (g ∷ gs) (drop i s) ≡ suc (begun gs (drop (suc i) s))
  begun_in e = let h = byte_there e in begun_step h ∙ rw (sym (byte_here h) ∙ e)

  pub begun_out : byte_fits g s i ≡ false → begun (g ∷ gs) (drop i s) ≡ 0
  unfolding byte_fits
  begun_out e = go (ltb i (length s)) refl
    where
      go : (t : Bool) → ltb i (length s) ≡ t → begun (g ∷ gs) (drop i s) ≡ 0
      go true f = let h = ltb-true i (length s) f in begun_step h ∙ rw (sym (byte_here h) ∙ e)
      go false f = ap (begun (g ∷ gs)) (drop_of_length-le s (let z : length s ≤ i = omega (arith, ltb-false i (length s) f) in z))

-- a text that is too short for a row
fits-length : (gs : Row) (s : List ℕ) → fits gs s ≡ true → length gs ≤ length s
fits-length [] s e = omega arith
fits-length (g ∷ gs) [] e = absurd (false≢true e)
fits-length (g ∷ gs) (b ∷ s) e = let h = fits-length gs s (and_right (inside g b) (fits gs s) e) in omega arith

pub fits_short : (gs : Row) (s : List ℕ) → length s < length gs → fits gs s ≡ false
fits_short gs s h = go (fits gs s) refl
  where
    go : (t : Bool) → fits gs s ≡ t → fits gs s ≡ false
    go true e = absurd (omega (arith, fits-length gs s e))
    go false e = e

-- the ranges of a row's bytes after the first, from number i on
module _ (gs : Row) (s : List ℕ) (i : ℕ) (d : ByteRange) (h : i < length gs) where
  from_here : fits (drop i gs) (drop (suc i) s) ≡ fits (get_or gs i d ∷ drop (suc i) gs) (drop (suc i) s)
  from_here = ap (λ (r : Row). fits r (drop (suc i) s)) (drop-cons gs i d h)

  pub fits_next : byte_fits (get_or gs i d) s (suc i) ≡ true → fits (drop i gs) (drop (suc i) s) ≡ fits (drop (suc i) gs) (drop (suc (suc i)) s)
  fits_next e = from_here ∙ fits_in (get_or gs i d) (drop (suc i) gs) s (suc i) e

  pub fits_not : byte_fits (get_or gs i d) s (suc i) ≡ false → fits (drop i gs) (drop (suc i) s) ≡ false
  fits_not e = from_here ∙ fits_out (get_or gs i d) (drop (suc i) gs) s (suc i) e

-- n bytes of a text from byte i on, one by one
abbrev pub bytes_at : ℕ → ℕ → List ℕ → List ℕ
bytes_at zero i s = []
bytes_at (suc n) i s = get_or s i 0 ∷ bytes_at n (suc i) s

pub bytes_at_lem : (s : List ℕ) (i n : ℕ) → i + n ≤ length s → take n (drop i s) ≡ bytes_at n i s
bytes_at_lem s i zero h = refl
bytes_at_lem s i (suc n) h =
    ap (take (suc n)) (drop-cons s i 0 (omega arith)) ∙ ap (λ (l : List ℕ). get_or s i 0 ∷ l) (bytes_at_lem s (suc i) n (omega arith))

pub four_bytes : (s : List ℕ) → 3 < length s → take 4 s ≡ get_or s 0 0 ∷ get_or s 1 0 ∷ get_or s 2 0 ∷ get_or s 3 0 ∷ []
four_bytes s h = bytes_at_lem s 0 4 (omega arith)
