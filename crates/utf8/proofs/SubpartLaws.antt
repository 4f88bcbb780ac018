-- Maximal subparts: the number over the rows of Table 3-7 is the length of the longest, and there is only one.
-- Assumes nothing.
use Prim.Native.Nat.{ℕ, suc, ◌≤◌, ◌<◌}
use mathlib.Core.Path.{◌≡◌, refl, sym}
use mathlib.Core.Bool.{Bool, true, false, cond}
use mathlib.Core.List.{List, [], ◌∷◌, ◌++◌}
use mathlib.Core.Logic.{◌⊎◌, inl, inr}
use native.Mathlib.Omega.{arith}
use native.Mathlib.Decide.{dec_lt}
use lib.ListN.{length, take, drop, length-take, take-append-drop}
use borrow.Author.Tests.{lt-ltb, le-ltb}
use Rattle.utf8.specs.Table.{Row, rows, inside, Fills, FillsSome, Sequence}
use Rattle.utf8.specs.Subpart.{begun, larger, subpart_in, subpart_of, Subpart, MaximalSubpart}
use Rattle.utf8.proofs.TableLaws.{inside_in, inside_out}

-- the larger of two is one of them, and not less than the other
pub larger_left : (a b : ℕ) → b ≤ a → larger a b ≡ a
larger_left a b h = rw (le-ltb a b h)

pub larger_right : (a b : ℕ) → a ≤ b → larger a b ≡ b
larger_right a b h =
    elim (dec_lt a b) [
      | yes l ↦ rw (lt-ltb a b l)
      | no l ↦ (let e : a ≡ b = omega arith in rw (le-ltb a b (omega arith)) e)
    ]

larger_le : (a b : ℕ) → (a ≤ larger a b) × (b ≤ larger a b)
larger_le a b =
    elim (dec_lt a b) [
      | yes l ↦ rw (lt-ltb a b l) (omega arith, omega arith)
      | no l ↦ rw (le-ltb a b (let h : b ≤ a = omega arith in h)) (omega arith, omega arith)
    ]

-- every range of a row has a byte
abbrev Ranged : Row → Type 0
Ranged [] = Unit {0}
Ranged (g ∷ gs) = (g.low ≤ g.high) × Ranged gs

abbrev AllRanged : List Row → Type 0
AllRanged [] = Unit {0}
AllRanged (r ∷ rs) = Ranged r × AllRanged rs

rows_ranged : AllRanged rows
rows_ranged = (omega arith, (omega arith, (omega arith, (omega arith, (omega arith, (omega arith, (omega arith, (omega arith, (omega arith, tt)))))))))

-- so a row can be filled, whatever fits its first ranges
abbrev lows : Row → List ℕ
lows [] = []
lows (g ∷ gs) = g.low ∷ lows gs

fills_lows : (r : Row) → Ranged r → Fills r (lows r)
fills_lows [] h = tt
fills_lows (g ∷ gs) h = (omega arith, h.0, fills_lows gs h.1)

begun_fills : (r : Row) (s : List ℕ) → Ranged r → Fills r (take (begun r s) s ++ lows (drop (begun r s) r))
begun_fills [] s h = tt
begun_fills (g ∷ gs) [] h = fills_lows (g ∷ gs) h
begun_fills (g ∷ gs) (b ∷ s) h = go (inside g b) refl (begun_fills gs s h.1)
  where
    go : (t : Bool) → inside g b ≡ t → Fills gs (take (begun gs s) s ++ lows (drop (begun gs s) gs)) →
        Fills (g ∷ gs) (take (cond t (suc (begun gs s)) 0) (b ∷ s) ++ lows (drop (cond t (suc (begun gs s)) 0) (g ∷ gs)))
    go true e f = let o = inside_out g b e in (o.0, o.1, f)
    go false e f = fills_lows (g ∷ gs) h

begun_within : (r : Row) (s : List ℕ) → begun r s ≤ length s
begun_within [] s = omega arith
begun_within (g ∷ gs) [] = omega arith
begun_within (g ∷ gs) (b ∷ s) = go (inside g b) (begun_within gs s)
  where
    go : (t : Bool) → begun gs s ≤ length s → cond t (suc (begun gs s)) 0 ≤ suc (length s)
    go true h = omega arith
    go false h = omega arith

-- what begins a sequence of a row fits the row as far as it goes
fills_begun : (r : Row) (q t v : List ℕ) → Fills r (q ++ t) → length q ≤ begun r (q ++ v)
fills_begun r [] t v f = omega arith
fills_begun [] (b ∷ q) t v f = absurd f
fills_begun (g ∷ gs) (b ∷ q) t v f = rw (inside_in g b f.0 f.1) (let h = fills_begun gs q t v f.2 in omega arith)

-- over the rows: no initial subsequence is longer, and one byte is no more than it
longest_in : (rs : List Row) (q t v : List ℕ) → FillsSome rs (q ++ t) → length q ≤ subpart_in rs (q ++ v)
longest_in (r ∷ rs) q t v (inl f) = omega (arith, fills_begun r q t v f, larger_le (begun r (q ++ v)) (subpart_in rs (q ++ v)))
longest_in (r ∷ rs) q t v (inr f) = omega (arith, longest_in rs q t v f, larger_le (begun r (q ++ v)) (subpart_in rs (q ++ v)))
longest_in [] q t v x' = elim x' [ ]

one_in : (rs : List Row) (s : List ℕ) → 1 ≤ subpart_in rs s
one_in [] s = omega arith
one_in (r ∷ rs) s = omega (arith, one_in rs s, larger_le (begun r s) (subpart_in rs s))

-- and it is one of them
record Begins (rs : List Row) (s : List ℕ) (n : ℕ) : Type 0 where
  within : n ≤ length s
  others : List ℕ
  fills : FillsSome rs (take n s ++ others)

is_one : (rs : List Row) (s : List ℕ) → AllRanged rs → Begins rs s (subpart_in rs s) ⊎ (subpart_in rs s ≡ 1)
is_one [] s h = inr refl
is_one (r ∷ rs) s h = go (dec_lt (begun r s) (subpart_in rs s)) (is_one rs s h.1)
  where
    later : Begins rs s (subpart_in rs s) ⊎ (subpart_in rs s ≡ 1) → Begins (r ∷ rs) s (subpart_in rs s) ⊎ (subpart_in rs s ≡ 1)
    later (inl b) = inl (record { within = b.within; others = b.others; fills = inr b.fills })
    later (inr e) = inr e

    go : Dec (begun r s < subpart_in rs s) → Begins rs s (subpart_in rs s) ⊎ (subpart_in rs s ≡ 1) →
        Begins (r ∷ rs) s (subpart_in (r ∷ rs) s) ⊎ (subpart_in (r ∷ rs) s ≡ 1)
    go (yes l) b = rw (larger_right (begun r s) (subpart_in rs s) (omega arith)) (later b)
    go (no l) b =
        rw (larger_left (begun r s) (subpart_in rs s) (omega arith))
        (inl (record { within = begun_within r s; others = lows (drop (begun r s) r); fills = inl (begun_fills r s h.0) }))

-- the maximal subpart at the head of bytes
longest_here : (s q r : List ℕ) → s ≡ q ++ r → Subpart q → length q ≤ subpart_of s
unfolding subpart_of Sequence
longest_here s q r e (inl i) = rw e (longest_in rows q i.others r i.sequence)
longest_here s q r e (inr l) = omega (arith, one_in rows s)

pub subpart_means : (s : List ℕ) → 0 < length s → MaximalSubpart s (subpart_of s)
unfolding subpart_of Sequence
subpart_means s h = go (is_one rows s rows_ranged)
  where
    at : (n : ℕ) → subpart_of s ≡ n → n ≤ length s → Subpart (take n s) → MaximalSubpart s (subpart_of s)
    at n e l p =
        record {
          bytes = take n s;
          others = drop n s;
          whole = sym (take-append-drop n s);
          subpart = p;
          long = simp length-take (omega arith);
          longest = longest_here s;
        }

    go : Begins rows s (subpart_in rows s) ⊎ (subpart_in rows s ≡ 1) → MaximalSubpart s (subpart_of s)
    go (inl b) = at _ refl b.within (inl (record { others = b.others; sequence = b.fills }))
    go (inr e) = at 1 e (omega arith) (inr (simp length-take (omega arith)))

pub subpart_unique : {s : List ℕ} {m n : ℕ} → MaximalSubpart s m → MaximalSubpart s n → m ≡ n
subpart_unique a b =
    omega (arith, a.long, b.long, a.longest b.bytes b.others b.whole b.subpart, b.longest a.bytes a.others a.whole a.subpart)

pub means_subpart : (s : List ℕ) (n : ℕ) → 0 < length s → MaximalSubpart s n → subpart_of s ≡ n
means_subpart s n h m = subpart_unique (subpart_means s h) m
