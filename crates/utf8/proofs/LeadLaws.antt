-- The lead of a byte is its row of Table 3-7, and the sequence at the head of a text is the one that its lead asks for.
-- Assumes nothing.
use Prim.Native.Nat.{ℕ, zero, suc, ◌+◌, ◌*◌, ◌≤◌, ◌<◌}
use mathlib.Core.Path.{◌≡◌, refl, sym, ap, ◌∙◌}
use mathlib.Core.Bool.{Bool, true, false, ◌&&◌, ◌||◌, cond}
use mathlib.Core.List.{List, [], ◌∷◌, ◌++◌, append_assoc}
use mathlib.Core.Logic.{◌⊎◌, inl, inr}
use native.Mathlib.Omega.{arith}
use lib.Dec.{leb, ltb}
use lib.ListN.{length, take, drop, get_or}
use borrow.Author.Tests.{leb-true, ltb-true}
use Rattle.lists.proofs.BoolLaws.{and_left, and_right, or_cases, impossible}
use Rattle.utf8.specs.declared.Lead.{Lead}
use Rattle.utf8.specs.declared.Step.TheVariants.{Scalar, IllFormed, End}
use Rattle.utf8.specs.Table.{ByteRange, Row, rows, inside, fits}
use Rattle.utf8.specs.Encoding.{code_point}
use Rattle.utf8.specs.Subpart.{begun, subpart_in, subpart_of}
use Rattle.utf8.specs.Head.{step_in, step_of, IllHead}
use Rattle.utf8.specs.Lead.{lead_after, lead_of_row, leads, lead_in, lead_of, trail_of, step_as, step_by, whole_length, byte_fits, packed, length_of}
use Rattle.utf8.proofs.TableLaws.{inside_in, inside_out, inside_above, inside_below, byte_there, fits_in, fits_out, begun_in, begun_out, bytes_at, bytes_at_lem}
use Rattle.utf8.proofs.SubpartLaws.{larger_left, larger_right}

-- the rows' first bytes rise from m on
abbrev pub rising : ℕ → List Row → Bool
rising m [] = true
rising m ([] ∷ rs) = false
rising m ((g ∷ gs) ∷ rs) = (leb m g.low && leb g.low g.high) && rising (suc g.high) rs

pub rising_parts :
    (m : ℕ) (g : ByteRange) (gs : Row) (rs : List Row) → rising m ((g ∷ gs) ∷ rs) ≡ true
    → (m ≤ g.low) × (g.low ≤ g.high) × (rising (suc g.high) rs ≡ true)
rising_parts m g gs rs t =
    let u = and_left (leb m g.low && leb g.low g.high) (rising (suc g.high) rs) t in (
      leb-true m g.low (and_left (leb m g.low) (leb g.low g.high) u),
      leb-true g.low g.high (and_right (leb m g.low) (leb g.low g.high) u),
      and_right (leb m g.low && leb g.low g.high) (rising (suc g.high) rs) t,
    )

-- row number k begins with a range that has the byte, and goes on with the ranges gs
abbrev LeadsAt : List Row → ℕ → ℕ → Row → Type 0
LeadsAt [] k b gs = ⊥
LeadsAt ([] ∷ rs) k b gs = ⊥
LeadsAt ((g ∷ hs) ∷ rs) zero b gs = (g.low ≤ b) × (b ≤ g.high) × (hs ≡ gs)
LeadsAt ((g ∷ hs) ∷ rs) (suc k) b gs = LeadsAt rs k b gs

leads_low : (rs : List Row) (m k b : ℕ) (gs : Row) → rising m rs ≡ true → LeadsAt rs k b gs → m ≤ b
leads_low ((g ∷ hs) ∷ rs) m zero b gs t h = let p = rising_parts m g hs rs t in omega (arith, h.0)
leads_low ((g ∷ hs) ∷ rs) m (suc k) b gs t h =
    let p = rising_parts m g hs rs t in
    omega (arith, leads_low rs (suc g.high) k b gs p.2 h)
leads_low [] m k b gs t h = elim h [ ]
leads_low ([] ∷ rs) m k b gs t h = elim h [ ]

-- .. so it is the row of the byte
lead_in_lem : (rs : List Row) (m k b : ℕ) (gs : Row) → rising m rs ≡ true → LeadsAt rs k b gs → lead_after gs ≡ lead_in rs b
lead_in_lem ((g ∷ hs) ∷ rs) m zero b gs t h = rw (inside_in g b h.0 h.1) (ap lead_after (sym h.2))
lead_in_lem ((g ∷ hs) ∷ rs) m (suc k) b gs t h =
    let p = rising_parts m g hs rs t in
    rw (inside_above g b (leads_low rs (suc g.high) k b gs p.2 h)) (lead_in_lem rs (suc g.high) k b gs p.2 h)
lead_in_lem [] m k b gs t h = elim h [ ]
lead_in_lem ([] ∷ rs) m k b gs t h = elim h [ ]

pub lead_at : (k b : ℕ) (gs : Row) → LeadsAt rows k b gs → lead_after gs ≡ lead_of b
unfolding lead_of
lead_at k b gs h = lead_in_lem rows 0 k b gs refl h

-- no row begins with a number from i to j, by a computed test
abbrev clear : ℕ → ℕ → List Row → Bool
clear i j [] = true
clear i j ([] ∷ rs) = clear i j rs
clear i j ((g ∷ gs) ∷ rs) = (ltb j g.low || ltb g.high i) && clear i j rs

clear_in : (rs : List Row) (i j b : ℕ) → clear i j rs ≡ true → i ≤ b → b ≤ j → lead_of_row [] ≡ lead_in rs b
clear_in [] i j b t h k = refl
clear_in ([] ∷ rs) i j b t h k = clear_in rs i j b t h k
clear_in ((g ∷ gs) ∷ rs) i j b t h k =
    go (or_cases (ltb j g.low) (ltb g.high i) (and_left (ltb j g.low || ltb g.high i) (clear i j rs) t))
    (clear_in rs i j b (and_right (ltb j g.low || ltb g.high i) (clear i j rs) t) h k)
  where
    go : (ltb j g.low ≡ true) ⊎ (ltb g.high i ≡ true) → lead_of_row [] ≡ lead_in rs b → lead_of_row [] ≡ lead_in ((g ∷ gs) ∷ rs) b
    go (inl e) f = rw (inside_below g b (omega (arith, ltb-true j g.low e))) f
    go (inr e) f = rw (inside_above g b (omega (arith, ltb-true g.high i e))) f

pub no_lead_at : (i j b : ℕ) → clear i j rows ≡ true → i ≤ b → b ≤ j → lead_of_row [] ≡ lead_of b
unfolding lead_of
no_lead_at i j b t h k = clear_in rows i j b t h k

-- a row's length and its ranges after the first can be told by its lead
abbrev AsLead : Row → Type 0
AsLead gs = ((lead_after gs).len ≡ suc (length gs)) × (gs ≡ trail_of (suc (length gs)) (lead_after gs))

abbrev Shaped : List Row → Type 0
Shaped [] = Unit {0}
Shaped (r ∷ rs) = AsLead (drop 1 r) × Shaped rs

rows_shaped : Shaped rows
rows_shaped = ((refl, refl), ((refl, refl), ((refl, refl), ((refl, refl), ((refl, refl), ((refl, refl), ((refl, refl), ((refl, refl), ((refl, refl), tt)))))))))

abbrev Short : List Row → Type 0
Short [] = Unit {0}
Short (r ∷ rs) = ((lead_of_row r).len ≤ 4) × Short rs

-- no row begins with a byte below the rows' first bytes
none_below : (rs : List Row) (m b : ℕ) (s : List ℕ) → rising m rs ≡ true → b < m → step_in rs (b ∷ s) ≡ IllFormed (subpart_of (b ∷ s))
none_below [] m b s t h = refl
none_below ([] ∷ rs) m b s t h = impossible (cc)
none_below ((g ∷ gs) ∷ rs) m b s t h =
    let p = rising_parts m g gs rs t in
    simp (inside_below g b (omega arith)) (none_below rs (suc g.high) b s p.2 (omega arith))

-- the ranges that a lead asks for after the first byte
abbrev trail_by : Lead → Row
trail_by l = trail_of l.len l

trail_by_lem : (gs : Row) → AsLead gs → gs ≡ trail_by (lead_after gs)
trail_by_lem gs a = a.1 ∙ ap (λ (n : ℕ). trail_of n (lead_after gs)) (sym a.0)

-- the row that has the byte decides, since no later row has it
row_here :
    (g : ByteRange) (gs : Row) (rs : List Row) (b : ℕ) (s : List ℕ) → inside g b ≡ true → step_in rs (b ∷ s) ≡ IllFormed (subpart_of (b ∷ s))
    → AsLead gs → step_in ((g ∷ gs) ∷ rs) (b ∷ s) ≡ step_by (lead_after gs) (b ∷ s)
unfolding step_by
row_here g gs rs b s e f a =
    rw (e, f)
    (ap (λ (r : Row). step_as (suc (length gs)) r (b ∷ s)) a.1 ∙ ap (λ (n : ℕ). step_as n (trail_of n (lead_after gs)) (b ∷ s)) (sym a.0))

by_rows : (rs : List Row) (m b : ℕ) (s : List ℕ) → rising m rs ≡ true → Shaped rs → step_in rs (b ∷ s) ≡ step_by (lead_in rs b) (b ∷ s)
unfolding step_by
by_rows [] m b s t a = refl
by_rows ([] ∷ rs) m b s t a = impossible (cc)
by_rows ((g ∷ gs) ∷ rs) m b s t a =
    let p = rising_parts m g gs rs t in
    go (by_rows rs (suc g.high) b s p.2 a.1) (inside g b) refl
  where
    go :
        step_in rs (b ∷ s) ≡ step_by (lead_in rs b) (b ∷ s) → (i : Bool) → inside g b ≡ i
        → step_in ((g ∷ gs) ∷ rs) (b ∷ s) ≡ step_by (lead_in ((g ∷ gs) ∷ rs) b) (b ∷ s)
    go ih true e =
        let p = rising_parts m g gs rs t in
        let o = inside_out g b e in
        row_here g gs rs b s e (none_below rs (suc g.high) b s p.2 (omega arith)) a.0 ∙ simp e
    go ih false e = simp e ih

-- the sequence at the head of a text is the one that the lead of its first byte asks for
by_first : (s : List ℕ) → 0 < length s → step_of s ≡ step_by (lead_of (get_or s 0 0)) s
unfolding step_of lead_of
by_first [] h = absurd (omega arith)
by_first (b ∷ s) h = by_rows rows 0 b s refl rows_shaped

-- the bytes that begin a sequence are the first, and those after it that are as its lead asks
one_below : (rs : List Row) (m b : ℕ) (s : List ℕ) → rising m rs ≡ true → b < m → subpart_in rs (b ∷ s) ≡ 1
one_below [] m b s t h = refl
one_below ([] ∷ rs) m b s t h = impossible (cc)
one_below ((g ∷ gs) ∷ rs) m b s t h =
    let p = rising_parts m g gs rs t in
    rw (inside_below g b (omega arith), one_below rs (suc g.high) b s p.2 (omega arith))

subpart_rows : (rs : List Row) (m b : ℕ) (s : List ℕ) → rising m rs ≡ true → Shaped rs → subpart_in rs (b ∷ s) ≡ suc (begun (trail_by (lead_in rs b)) s)
subpart_rows [] m b s t a = refl
subpart_rows ([] ∷ rs) m b s t a = impossible (cc)
subpart_rows ((g ∷ gs) ∷ rs) m b s t a =
    let p = rising_parts m g gs rs t in
    go (subpart_rows rs (suc g.high) b s p.2 a.1) (inside g b) refl
  where
    go :
        subpart_in rs (b ∷ s) ≡ suc (begun (trail_by (lead_in rs b)) s) → (i : Bool) → inside g b ≡ i
        → subpart_in ((g ∷ gs) ∷ rs) (b ∷ s) ≡ suc (begun (trail_by (lead_in ((g ∷ gs) ∷ rs) b)) s)
    go ih true e =
        let p = rising_parts m g gs rs t in
        let o = inside_out g b e in
        rw (e, one_below rs (suc g.high) b s p.2 (omega arith)) (larger_left (suc (begun gs s)) 1 (omega arith) ∙ ap (λ (r : Row). suc (begun r s)) (trail_by_lem gs a.0))
    go ih false e = rw e (larger_right 0 (subpart_in rs (b ∷ s)) (omega arith) ∙ ih)

subpart_first : (s : List ℕ) → 0 < length s → subpart_of s ≡ suc (begun (trail_by (lead_of (get_or s 0 0))) (drop 1 s))
unfolding subpart_of lead_of
subpart_first [] h = absurd (omega arith)
subpart_first (b ∷ s) h = subpart_rows rows 0 b s refl rows_shaped

lead_short : (rs : List Row) (b : ℕ) → Short rs → (lead_in rs b).len ≤ 4
lead_short [] b h = omega arith
lead_short (r ∷ rs) b h = go (leads r b) (lead_short rs b h.1)
  where
    go : (t : Bool) → (lead_in rs b).len ≤ 4 → (cond t (lead_of_row r) (lead_in rs b)).len ≤ 4
    go true l = h.0
    go false l = l

pub lead_le : (b : ℕ) {l : Lead} → l ≡ lead_of b → l.len ≤ 4
unfolding lead_of
lead_le b {l} e = rw e (lead_short rows b (omega arith))

-- l is the lead of the text's first byte, and after it stand n bytes as the ranges p say
pub record Begun (s : List ℕ) (l : Lead) (p : Row) (n : ℕ) : Type 0 where
  pub lead : l ≡ lead_of (get_or s 0 0)
  pub within : n < length s
  pub left : (gs : Row) → fits (p ++ gs) (drop 1 s) ≡ fits gs (drop (suc n) s)
  pub more : (gs : Row) → begun (p ++ gs) (drop 1 s) ≡ n + begun gs (drop (suc n) s)

pub begins : (s : List ℕ) (l : Lead) → l ≡ lead_of (get_or s 0 0) → 0 < length s → Begun s l [] 0
begins s l e h = record { lead = e; within = h; left = λ gs. refl; more = λ gs. (let z : begun gs (drop 1 s) ≡ 0 + begun gs (drop 1 s) = omega arith in z) }

module _ {s : List ℕ} {l : Lead} {p : Row} {n : ℕ} (d : Begun s l p n) where
  asked : (k : ℕ) → l.len ≡ k → step_of s ≡ step_as k (trail_of k l) s
  unfolding step_by
  asked k e =
      by_first s (let h = d.within in omega arith)
      ∙ ap (λ (m : Lead). step_by m s) (sym d.lead) ∙ ap (λ (k : ℕ). step_as k (trail_of k l) s) e

  judged : (k : ℕ) (gs : Row) (t : Bool) → l.len ≡ suc k → trail_of (suc k) l ≡ p ++ gs → fits gs (drop (suc n) s) ≡ t →
      packed (step_of s) ≡ packed (cond t (Scalar (code_point (take (suc k) s)) (suc k)) (IllFormed (subpart_of s)))
  judged k gs t e r f =
      let g = ap (λ (q : Row). fits q (drop 1 s)) r ∙ d.left gs ∙ f in
      ap packed (asked (suc k) e) ∙ ap (λ (u : Bool). packed (cond u (Scalar (code_point (take (suc k) s)) (suc k)) (IllFormed (subpart_of s)))) g

  -- no row has the first byte
  pub no_lead : l.len ≡ 0 → 0 ≡ packed (step_of s)
  no_lead e = sym (ap packed (asked 0 e))

  -- the maximal subpart, where the ranges asked for begin with those of p
  subpart_asked : (k : ℕ) (gs : Row) → l.len ≡ k → trail_of k l ≡ p ++ gs → subpart_of s ≡ suc (n + begun gs (drop (suc n) s))
  subpart_asked k gs e r =
      subpart_first s (let h = d.within in omega arith)
      ∙ ap (λ (m : Lead). suc (begun (trail_by m) (drop 1 s))) (sym d.lead)
      ∙ ap (λ (k : ℕ). suc (begun (trail_of k l) (drop 1 s))) e
      ∙ ap (λ (q : Row). suc (begun q (drop 1 s))) r ∙ ap suc (d.more gs)

  -- the next byte is in its range
  pub next_in : (g : ByteRange) → byte_fits g s (suc n) ≡ true → Begun s l (p ++ (g ∷ [])) (suc n)
  next_in g f = record {
    lead = d.lead;
    within = byte_there g [] s (suc n) f;
    left = λ gs. ap (λ (q : Row). fits q (drop 1 s)) (append_assoc p (g ∷ []) gs) ∙ d.left (g ∷ gs) ∙ fits_in g gs s (suc n) f;
    more =
        λ gs.
        ap (λ (q : Row). begun q (drop 1 s)) (append_assoc p (g ∷ []) gs)
        ∙ d.more (g ∷ gs) ∙ (let e = begun_in g gs s (suc n) f in let z : n + begun (g ∷ gs) (drop (suc n) s) ≡ suc n + begun gs (drop (suc (suc n)) s) = omega arith in z);
  }

  -- it isn't: no sequence begins
  pub next_out :
      (g : ByteRange) (gs : Row) (k : ℕ) → l.len ≡ suc k → trail_of (suc k) l ≡ p ++ (g ∷ gs)
      → byte_fits g s (suc n) ≡ false → 0 ≡ packed (step_of s)
  next_out g gs k e r f = sym (judged k (g ∷ gs) false e r (fits_out g gs s (suc n) f))

  -- .. and the bytes before it are the maximal subpart
  pub subpart_out :
      (g : ByteRange) (gs : Row) (k : ℕ) → l.len ≡ suc k → trail_of (suc k) l ≡ p ++ (g ∷ gs)
      → byte_fits g s (suc n) ≡ false → suc n ≡ subpart_of s
  subpart_out g gs k e r f = omega (arith, subpart_asked (suc k) (g ∷ gs) e r, begun_out g gs s (suc n) f)

  -- the row ends here
  pub whole : l.len ≡ suc n → trail_of (suc n) l ≡ p ++ [] → code_point (bytes_at (suc n) 0 s) * 8 + suc n ≡ packed (step_of s)
  whole e r =
      ap (λ (q : List ℕ). code_point q * 8 + suc n) (sym (bytes_at_lem s 0 (suc n) (let h = d.within in omega arith)))
      ∙ sym (judged n [] true e r refl)

  -- it doesn't where the head is ill-formed
  pub not_whole : IllHead s → l.len ≡ suc n → trail_of (suc n) l ≡ p ++ [] → ⊥
  not_whole i e r = let w = whole e r ∙ ap packed i in omega arith

-- no row has the first byte: it alone is the maximal subpart
pub subpart_alone : {s : List ℕ} {l : Lead} → Begun s l [] 0 → l.len ≡ 0 → 1 ≡ subpart_of s
subpart_alone d e = sym (subpart_asked d 0 [] e refl)

-- the length of the sequence that the lead asks for
length-cond : (t : Bool) (x n m : ℕ) → cond t n 0 ≡ length_of (cond t (Scalar x n) (IllFormed m))
length-cond true x n m = refl
length-cond false x n m = refl

module _ (s : List ℕ) (l : Lead) (e : l ≡ lead_of (get_or s 0 0)) (h : 0 < length s) where
  pub no_length : l.len ≡ 0 → 0 ≡ length_of (step_of s)
  no_length z = sym (ap length_of (asked (begins s l e h) 0 z))

  pub length_asked : (gs : Row) → l.len ≡ suc (length gs) → trail_of (suc (length gs)) l ≡ gs → whole_length gs s ≡ length_of (step_of s)
  length_asked gs z r =
      length-cond (fits gs (drop 1 s)) (code_point (take (suc (length gs)) s)) (suc (length gs)) (subpart_of s)
      ∙ sym (ap length_of (asked (begins s l e h) (suc (length gs)) z ∙ ap (λ (q : Row). step_as (suc (length gs)) q s) r))

-- a byte below 80 is a sequence by itself
pub ascii : (s : List ℕ) → 0 < length s → get_or s 0 0 < 0x80 → Scalar (code_point (get_or s 0 0 ∷ [])) 1 ≡ step_of s
ascii s h b =
    let e = lead_at 0 (get_or s 0 0) [] (omega arith, omega arith, refl) in
    ap (λ (q : List ℕ). Scalar (code_point q) 1) (sym (bytes_at_lem s 0 1 (omega arith))) ∙ sym (asked (begins s _ e h) 1 refl)

pub at_end : (s : List ℕ) → length s ≡ 0 → End ≡ step_of s
unfolding step_of
at_end [] h = refl
at_end (b ∷ s) h = absurd (omega arith)
