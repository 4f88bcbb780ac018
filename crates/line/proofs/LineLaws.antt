-- Lines from character to character, and what the first byte of a character tells of its line end. Assumes nothing.
use Prim.Native.Nat.{ℕ, ◌+◌, ◌≤◌, ◌<◌}
use mathlib.Core.Path.{◌≡◌, refl, sym, ap, subst, ◌∙◌}
use mathlib.Core.Bool.{Bool, true, false, cond}
use mathlib.Core.List.{List, [], ◌∷◌, ◌++◌, append_assoc}
use native.Mathlib.Omega.{arith}
use native.Mathlib.Decide.{dec_lt}
use lib.ListN.{length, get_or, drop}
use lib.Dec.{leb, eqb}
use borrow.Author.Tests.{eq-eqb, ne_eqb, eqb-true, eqb-false, lt-ltb, le-ltb, le-leb, lt-leb}
use mathlib.Core.Logic.{◌⊎◌, inl, inr}
use Rattle.lists.proofs.BoolLaws.{impossible}
use Rattle.utf8.specs.declared.Step.{Step}
use Rattle.utf8.specs.declared.Step.TheVariants.{Scalar, IllFormed, End}
use Rattle.utf8.specs.Lead.{is_trail}
use Rattle.utf8.specs.Head.{step_of, IllHead}
use Rattle.utf8.specs.Text.{Character, decode, characters_at, width_of}
use Rattle.utf8.proofs.SequenceLaws.{trail_range, ill_at}
use Rattle.utf8.proofs.EncodedLaws.{AllWide}
use Rattle.utf8.proofs.TextLaws.{first_byte, decode_end, characters_few, characters_wide, first_at, ascii_at, characters_step, characters_ill, characters_end, width_append}
use Rattle.line.specs.Line.{is_line_end, feed_first, ends_line, one, line_ends, before, line_of, LineAt}
use Rattle.line.specs.Ends.{look, end_of, end_at}

-- the code points that end a line, by ranges
pub data LineEnd (x : ℕ) : Type 0 where
  low : 0x0A ≤ x → x ≤ 0x0D → LineEnd x
  next : x ≡ 0x85 → LineEnd x
  separator : 0x2028 ≤ x → x ≤ 0x2029 → LineEnd x

pub no_line_end : (x : ℕ) → (LineEnd x → ⊥) → is_line_end x ≡ false
unfolding is_line_end
no_line_end x n =
    rw (
      ne_eqb x 0x0A (λ q. n (low (omega arith) (omega arith))),
      ne_eqb x 0x0B (λ q. n (low (omega arith) (omega arith))),
      ne_eqb x 0x0C (λ q. n (low (omega arith) (omega arith))),
      ne_eqb x 0x0D (λ q. n (low (omega arith) (omega arith))),
      ne_eqb x 0x85 (λ q. n (next q)),
      ne_eqb x 0x2028 (λ q. n (separator (omega arith) (omega arith))),
      ne_eqb x 0x2029 (λ q. n (separator (omega arith) (omega arith))),
    )

pub is_line_end_lem : (x : ℕ) → LineEnd x → is_line_end x ≡ true
unfolding is_line_end
is_line_end_lem x (low h l) = go (dec_lt x 0x0B) (dec_lt x 0x0C) (dec_lt x 0x0D)
  where
    go : Dec (x < 0x0B) → Dec (x < 0x0C) → Dec (x < 0x0D) → is_line_end x ≡ true
    go (yes a) b c = let q : x ≡ 0x0A = omega arith in rw q
    go (no a) (yes b) c = let q : x ≡ 0x0B = omega arith in rw q
    go (no a) (no b) (yes c) = let q : x ≡ 0x0C = omega arith in rw q
    go (no a) (no b) (no c) = let q : x ≡ 0x0D = omega arith in rw q
is_line_end_lem x (next e) = rw e
is_line_end_lem x (separator h l) = go (dec_lt x 0x2029)
  where
    go : Dec (x < 0x2029) → is_line_end x ≡ true
    go (yes a) = let q : x ≡ 0x2028 = omega arith in rw q
    go (no a) = let q : x ≡ 0x2029 = omega arith in rw q

pub one_at_most : (b : Bool) → one b ≤ 1
one_at_most true = omega arith
one_at_most false = omega arith

-- what a byte tells
pub data EndTold (b : ℕ) : ℕ → Type 0 where
  nothing : (b < 0x0A) ⊎ (0x0D < b) → (b ≡ 0xC2 → ⊥) → (b ≡ 0xE2 → ⊥) → EndTold b 0
  ends : 0x0A ≤ b → b < 0x0D → EndTold b 1
  looks : EndTold b look

end_tells : (b : ℕ) → EndTold b (end_of b)
unfolding end_of
end_tells b = go (dec_lt b 0x0A) (dec_lt b 0x0D)
  where
    past : 0x0D ≤ b → (t u v : Bool) → eqb b 0x0D ≡ t → eqb b 0xC2 ≡ u → eqb b 0xE2 ≡ v → EndTold b (cond t look (cond u look (cond v look 0)))
    past h true u v e f g = looks
    past h false true v e f g = looks
    past h false false true e f g = looks
    past h false false false e f g = nothing (inr (omega (arith, eqb-false b 0x0D e))) (eqb-false b 0xC2 f) (eqb-false b 0xE2 g)

    go : Dec (b < 0x0A) → Dec (b < 0x0D) → EndTold b (end_of b)
    go (yes h) d = rw (lt-ltb b 0x0A h) (nothing (inl h) (λ e. absurd (omega arith)) (λ e. absurd (omega arith)))
    go (no h) (yes l) = rw (le-ltb b 0x0A (omega arith), lt-ltb b 0x0D l) (ends (omega arith) l)
    go (no h) (no l) = rw (le-ltb b 0x0A (omega arith), le-ltb b 0x0D (omega arith)) (past (omega arith) (eqb b 0x0D) (eqb b 0xC2) (eqb b 0xE2) refl refl refl)

-- it never tells more than `look`, and a byte that only follows others tells nothing
pub end_most : (b : ℕ) → end_of b ≤ look
end_most b = go (end_tells b)
  where
    go : {v : ℕ} → EndTold b v → v ≤ look
    go (nothing h c e) = omega arith
    go (ends h l) = omega arith
    go looks = omega arith

pub trail_tells : (b : ℕ) → is_trail b ≡ true → end_of b ≡ 0
unfolding end_of
trail_tells b e =
    let r = trail_range b e in
    rw (le-ltb b 0x0A (omega arith), le-ltb b 0x0D (omega arith), ne_eqb b 0x0D (λ f. absurd (omega arith)), ne_eqb b 0xC2 (λ f. absurd (omega arith)), ne_eqb b 0xE2 (λ f. absurd (omega arith)))

-- whether a line ends with a code point
module _ (x : ℕ) (r : List Character) where
  pub ends_not : is_line_end x ≡ false → one (ends_line x r) ≡ 0
  unfolding ends_line
  ends_not e = rw e

  pub ends_here : is_line_end x ≡ true → (x ≡ 0x0D → ⊥) → one (ends_line x r) ≡ 1
  unfolding ends_line
  ends_here e n = rw (e, ne_eqb x 0x0D n)

  pub return_before_feed : x ≡ 0x0D → feed_first r ≡ true → one (ends_line x r) ≡ 0
  unfolding ends_line
  return_before_feed e f = rw (is_line_end_lem x (low (omega arith) (omega arith)), eq-eqb x 0x0D e, f)

module _ (text : List ℕ) where
  -- LINE FEED is one byte
  pub feed_end : (at : ℕ) → length text ≤ at → feed_first (characters_at text at) ≡ false
  feed_end at h = ap feed_first (characters_end text at h)

  pub feed_byte : (at : ℕ) → at < length text → feed_first (characters_at text at) ≡ eqb (get_or text at 0) 0x0A
  feed_byte at h = go (eqb (get_or text at 0) 0x0A) refl
    where
      by : (get_or text at 0 ≡ 0x0A → ⊥) → (t : Step) → step_of (drop at text) ≡ t → feed_first (characters_at text at) ≡ false
      by n (Scalar x k) e =
          ap feed_first (characters_step text at x k e)
          ∙ ne_eqb x 0x0A (λ q. n (sym (first_at text at) ∙ (first_byte (drop at text) x k e).ascii (omega arith) ∙ q))
      by n (IllFormed k) e = ap feed_first (characters_ill text at (ill_at (drop at text) k e))
      by n End e = ap (λ d. feed_first d.characters) (decode_end (drop at text) e)

      go : (b : Bool) → eqb (get_or text at 0) 0x0A ≡ b → feed_first (characters_at text at) ≡ eqb (get_or text at 0) 0x0A
      go true e =
          let b = eqb-true (get_or text at 0) 0x0A e in
          ap feed_first (characters_step text at (get_or text at 0) 1 (ascii_at text at h (omega arith)))
      go false e = by (λ q. impossible (cc (eq-eqb (get_or text at 0) 0x0A q))) (step_of (drop at text)) refl ∙ sym e

  -- what the first byte of a character tells
  module _ (at x n : ℕ) (e : step_of (drop at text) ≡ Scalar x n) where
    abbrev b : ℕ
    b = get_or text at 0

    -- no line ends with it
    told_by : at < length text → {v : ℕ} → EndTold b v → v < look → (r : List Character) → v ≡ one (ends_line x r)
    told_by h (nothing k c d) l r = sym (ends_not x r (no_line_end x none))
      where
        first : (y : ℕ) → get_or (drop at text) 0 0 ≡ y → b ≡ y
        first y q = sym (first_at text at) ∙ q

        outside : (0x0A ≤ b) → (b ≤ 0x0D) → (b < 0x0A) ⊎ (0x0D < b) → ⊥
        outside p q (inl z) = omega arith
        outside p q (inr z) = omega arith

        none : LineEnd x → ⊥
        none (low p q) = let z = first x ((first_byte (drop at text) x n e).ascii (omega arith)) in outside (omega arith) (omega arith) k
        none (next q) = c (first 0xC2 (omega (arith, (first_byte (drop at text) x n e).two (omega arith) (omega arith))))
        none (separator p q) = d (first 0xE2 (omega (arith, (first_byte (drop at text) x n e).three (omega arith) (omega arith))))
    told_by h (ends p q) l r =
        let a = ascii_at text at h (omega arith) in
        let c : x ≡ b = cc in
        sym (ends_here x r (is_line_end_lem x (low (omega arith) (omega arith))) (λ k. absurd (omega arith)))
    told_by h looks l r = absurd (omega arith)

    pub told : at < length text → (v : ℕ) → v ≡ end_of b → v < look → (r : List Character) → v ≡ one (ends_line x r)
    told h v q l r = q ∙ told_by h (end_tells b) (omega arith) r

    pub end_at_lem : end_at text at ≡ one (ends_line x (characters_at text (at + n)))
    unfolding end_at
    end_at_lem = rw e

  pub end_none : (at : ℕ) → IllHead (drop at text) → end_at text at ≡ 0
  unfolding end_at
  end_none at e = rw e

-- characters that begin at byte p have no line end before byte p, nor before an earlier one
ends_later : (p q : ℕ) (cs : List Character) → AllWide cs → q ≤ p → before q (line_ends p cs) ≡ 0
unfolding line_ends
ends_later p q [] a h = refl
ends_later p q (c ∷ r) a h = go (ends_line c.code r) (ends_later (p + c.width) q r a.1 (omega arith))
  where
    go : (b : Bool) → before q (line_ends (p + c.width) r) ≡ 0 → before q (cond b ((p + c.width) ∷ line_ends (p + c.width) r) (line_ends (p + c.width) r)) ≡ 0
    go true e = rw (lt-leb (p + c.width) q (let w = a.0 in omega arith), e)
    go false e = e

-- past the character after the characters u there is one line end more, if a line ends with it
ends_past : (p : ℕ) (u : List Character) (c : Character) (r : List Character) → AllWide (u ++ c ∷ r) →
    before (p + width_of u + c.width) (line_ends p (u ++ c ∷ r)) ≡ before (p + width_of u) (line_ends p (u ++ c ∷ r)) + one (ends_line c.code r)
unfolding line_ends
ends_past p [] c r a =
    go (ends_line c.code r) (ends_later q (p + 0 + c.width) r a.1 (omega arith)) (ends_later q (p + 0) r a.1 (omega arith))
  where
    q : ℕ
    q = p + c.width

    go : (b : Bool) → before (p + 0 + c.width) (line_ends q r) ≡ 0 → before (p + 0) (line_ends q r) ≡ 0 →
        before (p + 0 + c.width) (cond b (q ∷ line_ends q r) (line_ends q r)) ≡ before (p + 0) (cond b (q ∷ line_ends q r) (line_ends q r)) + one b
    go true e f = rw (le-leb q (p + 0 + c.width) (omega arith), lt-leb q (p + 0) (let w = a.0 in omega arith), e, f)
    go false e f = rw (e, f)
ends_past p (d ∷ u) c r a =
    let k : p + (d.width + width_of u) + c.width ≡ p + d.width + width_of u + c.width = omega arith in
    let l : p + (d.width + width_of u) ≡ p + d.width + width_of u = omega arith in
    rw (k, l) (go (p + d.width) (line_ends (p + d.width) (u ++ c ∷ r)) (ends_line d.code (u ++ c ∷ r)) (ends_past (p + d.width) u c r a.1))
  where
    go : (q : ℕ) (es : List ℕ) (b : Bool) → before (q + width_of u + c.width) es ≡ before (q + width_of u) es + one (ends_line c.code r) →
        before (q + width_of u + c.width) (cond b (q ∷ es) es) ≡ before (q + width_of u) (cond b (q ∷ es) es) + one (ends_line c.code r)
    go q es true e = rw (le-leb q (q + width_of u + c.width) (omega arith), le-leb q (q + width_of u) (omega arith)) (omega arith)
    go q es false e = e

-- the line ends before a character depend on those before it and on itself, not on what follows
next_same : (x : ℕ) (u : List Character) (c : Character) (r t : List Character) → ends_line x (u ++ c ∷ r) ≡ ends_line x (u ++ c ∷ t)
unfolding ends_line
next_same x [] c r t = refl
next_same x (d ∷ u) c r t = refl

ends_front : (p : ℕ) (u : List Character) (c : Character) (r t : List Character) → AllWide (u ++ c ∷ r) → AllWide (u ++ c ∷ t) →
    before (p + width_of u) (line_ends p (u ++ c ∷ r)) ≡ before (p + width_of u) (line_ends p (u ++ c ∷ t))
unfolding line_ends
ends_front p [] c r t a b = ends_later p (p + 0) (c ∷ r) a (omega arith) ∙ sym (ends_later p (p + 0) (c ∷ t) b (omega arith))
ends_front p (d ∷ u) c r t a b =
    let l : p + (d.width + width_of u) ≡ p + d.width + width_of u = omega arith in
    rw (l, next_same d.code u c r t) (go (p + d.width) (ends_line d.code (u ++ c ∷ t)) (ends_front (p + d.width) u c r t a.1 b.1))
  where
    go : (q : ℕ) (e : Bool) → before (q + width_of u) (line_ends q (u ++ c ∷ r)) ≡ before (q + width_of u) (line_ends q (u ++ c ∷ t)) →
        before (q + width_of u) (cond e (q ∷ line_ends q (u ++ c ∷ r)) (line_ends q (u ++ c ∷ r))) ≡ before (q + width_of u) (cond e (q ∷ line_ends q (u ++ c ∷ t)) (line_ends q (u ++ c ∷ t)))
    go q true h = ap (λ (n : ℕ). one (leb q (q + width_of u)) + n) h
    go q false h = h

-- no more than characters
ends_few : (p q : ℕ) (cs : List Character) → before q (line_ends p cs) ≤ length cs
unfolding line_ends
ends_few p q [] = omega arith
ends_few p q (c ∷ r) = go (ends_line c.code r) (ends_few (p + c.width) q r)
  where
    go : (b : Bool) → before q (line_ends (p + c.width) r) ≤ length r →
        before q (cond b ((p + c.width) ∷ line_ends (p + c.width) r) (line_ends (p + c.width) r)) ≤ length (c ∷ r)
    go true h = let o = one_at_most (leb (p + c.width) q) in omega arith
    go false h = omega arith

-- lines rise from 1
before_rises : (p q : ℕ) (es : List ℕ) → p ≤ q → before p es ≤ before q es
before_rises p q [] h = omega arith
before_rises p q (e ∷ es) h = let i = before_rises p q es h in let j = go (dec_lt q e) in omega arith
  where
    go : Dec (q < e) → one (leb e p) ≤ one (leb e q)
    go (yes l) = rw (lt-leb e p (omega arith), lt-leb e q l) (omega arith)
    go (no l) = rw (le-leb e q (omega arith)) (one_at_most (leb e p))

pub lines_rise : (text : List ℕ) (p q : ℕ) → p ≤ q → line_of text p ≤ line_of text q
unfolding line_of
lines_rise text p q h = let i = before_rises p q (line_ends 0 (decode text).characters) h in omega arith

pub line_first : (text : List ℕ) → line_of text 0 ≡ 1
unfolding line_of
line_first text = ap (λ (n : ℕ). 1 + n) (ends_later 0 0 (decode text).characters (characters_wide text) (omega arith))

-- two texts that begin with the same characters, up to and with one, have its first byte on the same line
pub line_front : (text other : List ℕ) (u : List Character) (c : Character) (r t : List Character) →
    (decode text).characters ≡ u ++ c ∷ r → (decode other).characters ≡ u ++ c ∷ t → line_of text (width_of u) ≡ line_of other (width_of u)
unfolding line_of
line_front text other u c r t e f =
    let z : 0 + width_of u ≡ width_of u = omega arith in
    let h = ends_front 0 u c r t (subst AllWide e (characters_wide text)) (subst AllWide f (characters_wide other)) in
    rw (e, f) (ap (λ (n : ℕ). 1 + n) (rw z at h))

pub line_begins : (text : List ℕ) → LineAt text 0 1
line_begins text = record { front = []; parted = refl; wide = refl; same = sym (line_first text) }

module _ {text : List ℕ} {at line : ℕ} (i : LineAt text at line) where
  pub line_few : line ≤ 1 + length text
  unfolding line_of
  line_few = omega (arith, i.same, ends_few 0 at (decode text).characters, characters_few text)

  -- past the character at the place
  module _ (x n : ℕ) (e : step_of (drop at text) ≡ Scalar x n) where
    abbrev rest : List Character
    rest = characters_at text (at + n)

    pub line_step : LineAt text (at + n) (line + one (ends_line x rest))
    unfolding line_of
    line_step =
        let c : Character = record { code = x; width = n } in
        let u = i.front in
        let p : (decode text).characters ≡ u ++ c ∷ rest = i.parted ∙ ap (λ (cs : List Character). u ++ cs) (characters_step text at x n e) in
        let f : List Character → ℕ → ℕ = λ (cs : List Character) (q : ℕ). before q (line_ends 0 cs) in
        let a : 0 + width_of u ≡ at = omega (arith, i.wide) in
        let s : f (u ++ c ∷ rest) (0 + width_of u + n) ≡ f (u ++ c ∷ rest) (0 + width_of u) + one (ends_line x rest) =
        ends_past 0 u c rest (subst AllWide p (characters_wide text)) in
        let g : f (decode text).characters at ≡ f (u ++ c ∷ rest) (0 + width_of u) = (λ j. f (p j) (sym a j)) in
        let h : f (decode text).characters (at + n) ≡ f (u ++ c ∷ rest) (0 + width_of u + n) = (λ j. f (p j) (sym a j + n)) in
        record {
          front = u ++ (c ∷ []);
          parted = p ∙ sym (append_assoc u (c ∷ []) rest);
          wide = width_append u (c ∷ []) ∙ omega (arith, i.wide);
          same = omega (arith, i.same, s, g, h);
        }

    pub line_counted : (k : ℕ) → k ≡ one (ends_line x rest) → LineAt text (at + n) (line + k)
    line_counted k h = subst (λ (j : ℕ). LineAt text (at + n) (line + j)) (sym h) line_step

    pub counted_few : (k : ℕ) → k ≡ one (ends_line x rest) → line + k ≤ 2 + length text
    counted_few k h = omega (arith, line_few, one_at_most (ends_line x rest))

    pub line_passes : is_line_end x ≡ false → LineAt text (at + n) line
    line_passes f = let z : line + one (ends_line x rest) ≡ line = omega (arith, ends_not x rest f) in subst (LineAt text (at + n)) z line_step
