-- The hashtags that are found place by place are all hashtags of the text, and the only such list. Assumes nothing.
use Prim.Native.Nat.{ℕ, suc, ◌+◌, ◌≤◌, ◌<◌}
use mathlib.Core.Path.{◌≡◌, refl, sym, ap, subst, ◌∙◌}
use mathlib.Core.Bool.{Bool, true, false, not, ◌&&◌}
use mathlib.Core.List.{List, [], ◌∷◌, ◌++◌, append_assoc, append-nil}
use mathlib.Core.Logic.{◌⊎◌, inl, inr}
use native.Mathlib.Omega.{arith}
use lib.ListN.{length, length-append}
use borrow.Author.Tests.{not-true}
use Rattle.lists.proofs.BoolLaws.{and_left, and_right, impossible}
use Rattle.utf8.specs.Text.{Character, width_of}
use Rattle.grammar.specs.All.{All}
use Rattle.hashtag.specs.Sign.{signs, continues, IsSign, IsContinue}
use Rattle.hashtag.specs.Find.{Span, run_of, span_by, hashtags_from, HashtagAt, Has, SpansRise}
use Rattle.hashtag.proofs.SignLaws.{no_sign}
use Rattle.hashtag.proofs.RunLaws.{Characters, Identifier, run_yes, run_no, run_none, run_continues, after_run, run_after, run_longest, run_append}

has_append : (t : Span) (xs bs : List Span) → Has t (xs ++ bs) → Has t xs ⊎ Has t bs
has_append t [] bs h = inr h
has_append t (a ∷ xs) bs (inl e) = inl (inl e)
has_append t (a ∷ xs) bs (inr h) = go (has_append t xs bs h)
  where
    go : Has t xs ⊎ Has t bs → Has t (a ∷ xs) ⊎ Has t bs
    go (inl k) = inl (inr k)
    go (inr k) = inr k

has_left : (t : Span) (xs bs : List Span) → Has t xs → Has t (xs ++ bs)
has_left t (a ∷ xs) bs (inl e) = inl e
has_left t (a ∷ xs) bs (inr h) = inr (has_left t xs bs h)
has_left t [] bs h = absurd h

has_right : (t : Span) (xs bs : List Span) → Has t bs → Has t (xs ++ bs)
has_right t [] bs h = h
has_right t (a ∷ xs) bs h = inr (has_right t xs bs h)

-- the span that stands in `span_by`
by_span : (b : Bool) (p q : ℕ) (run : Characters) (t : Span) → Has t (span_by b p q run) →
    (b ≡ true) × (0 < length run) × (t ≡ record { start = p; end = q + width_of run })
by_span b p q [] t h = absurd h
by_span false p q (c ∷ r) t h = absurd h
by_span true p q (c ∷ r) t (inl e) = (refl, omega arith, e)
by_span true p q (c ∷ r) t (inr h) = absurd h

span_by_lem : (p q : ℕ) (run : Characters) → 0 < length run → span_by true p q run ≡ record { start = p; end = q + width_of run } ∷ []
span_by_lem p q [] h = absurd (omega arith)
span_by_lem p q (c ∷ r) h = refl

no_span : (p q : ℕ) (run : Characters) → span_by false p q run ≡ []
no_span p q [] = refl
no_span p q (c ∷ r) = refl

-- a character has a byte at least
abbrev pub Wide : Character → Type 0
Wide c = 0 < c.width

and_false : (b : Bool) → (b && false) ≡ false
and_false true = refl
and_false false = refl

module _ (s : List ℕ) where
  -- what stands right before the characters is free, or what stands before them ends with no Continue
  abbrev AloneAfter : Bool → Characters → Type 0
  AloneAfter free [] = free ≡ true
  AloneAfter free (c ∷ b) = AloneAfter (not (continues s c)) b

  alone_in : (free : Bool) (before : Characters) → (before ≡ [] → free ≡ true)
      → ((b : Characters) (c : Character) → before ≡ b ++ (c ∷ []) → IsContinue s c → ⊥) → AloneAfter free before
  alone_in free [] f g = f refl
  alone_in free (c ∷ r) f g =
      alone_in (not (continues s c)) r (λ e. go (continues s c) refl (λ h. g [] c (ap (λ (l : Characters). c ∷ l) e) h)) (λ b d e h. g (c ∷ b) d (ap (λ (l : Characters). c ∷ l) e) h)
    where
      go : (b : Bool) → continues s c ≡ b → (continues s c ≡ true → ⊥) → not b ≡ true
      go true e n = absurd (n e)
      go false e n = refl

  alone_out : (free : Bool) (b : Characters) (c : Character) → AloneAfter free (b ++ (c ∷ [])) → IsContinue s c → ⊥
  alone_out free [] c a h = impossible (cc (not-true (continues s c) a))
  alone_out free (d ∷ b) c a h = alone_out (not (continues s d)) b c a h

  -- a hashtag among the characters from byte p on
  pub record TagIn (free : Bool) (p : ℕ) (cs : Characters) (t : Span) : Type 0 where
    before : Characters
    units : Characters
    after : Characters
    whole : cs ≡ before ++ (units ++ after)
    identifier : Identifier s units
    longest : (v w : Characters) → units ++ after ≡ v ++ w → Identifier s v → length v ≤ length units
    alone : AloneAfter free before
    start : t.start ≡ p + width_of before
    end : t.end ≡ p + width_of before + width_of units

  -- one begins at the first character, or after it
  tag_first : (free : Bool) (p : ℕ) (c : Character) (r : Characters) → (free && signs c) ≡ true → 0 < length (run_of s r)
      → TagIn free p (c ∷ r) (record { start = p; end = p + c.width + width_of (run_of s r) })
  tag_first free p c r b h =
      record {
        before = [];
        units = c ∷ run_of s r;
        after = after_run s r;
        whole = ap (λ (l : Characters). c ∷ l) (run_after s r);
        identifier = go (run_of s r) refl h (run_continues s r);
        longest = λ v w e i. most v w e i;
        alone = and_left free (signs c) b;
        start = omega arith;
        end = omega arith;
      }
    where
      go : (run : Characters) → run_of s r ≡ run → 0 < length run → All (IsContinue s) run → Identifier s (c ∷ run)
      go [] e l a = absurd (omega arith)
      go (d ∷ ds) e l a = record { sign = c; first = d; others = ds; whole = refl; start = and_right free (signs c) b; continued = a }

      most : (v w : Characters) → (c ∷ run_of s r) ++ after_run s r ≡ v ++ w → Identifier s v → length v ≤ suc (length (run_of s r))
      most v w e i =
          let k : c ∷ (run_of s r ++ after_run s r) ≡ i.sign ∷ ((i.first ∷ i.others) ++ w) = e ∙ ap (λ (l : Characters). l ++ w) i.whole in
          let m : run_of s r ++ after_run s r ≡ (i.first ∷ i.others) ++ w = cc in
          let n = ap (λ (l : Characters). length (run_of s l)) (run_after s r ∙ m) in
          let o = run_longest s (i.first ∷ i.others) w i.continued in
          let x = ap length i.whole in
          omega arith

  tag_later : (free : Bool) (p : ℕ) (c : Character) (r : Characters) (t : Span) → TagIn (not (continues s c)) (p + c.width) r t → TagIn free p (c ∷ r) t
  tag_later free p c r t h =
      record {
        before = c ∷ h.before;
        units = h.units;
        after = h.after;
        whole = ap (λ (l : Characters). c ∷ l) h.whole;
        identifier = h.identifier;
        longest = h.longest;
        alone = h.alone;
        start = omega (arith, h.start);
        end = omega (arith, h.end);
      }

  -- what is found is a hashtag
  pub found_only : (free : Bool) (p : ℕ) (cs : Characters) (t : Span) → Has t (hashtags_from s free p cs) → TagIn free p cs t
  unfolding hashtags_from
  found_only free p [] t h = absurd h
  found_only free p (c ∷ r) t h = go (has_append t (span_by (free && signs c) p (p + c.width) (run_of s r)) _ h) (λ k. found_only (not (continues s c)) (p + c.width) r t k)
    where
      go : Has t (span_by (free && signs c) p (p + c.width) (run_of s r)) ⊎ Has t (hashtags_from s (not (continues s c)) (p + c.width) r)
          → (Has t (hashtags_from s (not (continues s c)) (p + c.width) r) → TagIn (not (continues s c)) (p + c.width) r t) → TagIn free p (c ∷ r) t
      go (inl k) f = let (b, l, e) = by_span _ _ _ (run_of s r) t k in subst (TagIn free p (c ∷ r)) (sym e) (tag_first free p c r b l)
      go (inr k) f = tag_later free p c r t (f k)

  -- no unit can be added to the longest: what follows it isn't hashtag Continue
  run_ends : (sign : Character) (xs after : Characters) → IsSign sign → 0 < length xs → All (IsContinue s) xs
      → ((v w : Characters) → (sign ∷ xs) ++ after ≡ v ++ w → Identifier s v → length v ≤ length (sign ∷ xs)) → run_of s after ≡ []
  run_ends sign xs [] g h a m = run_none s
  run_ends sign xs (d ∷ ds) g h a m = go (continues s d) refl
    where
      longer : (ys : Characters) → 0 < length ys → All (IsContinue s) ys → IsContinue s d → Identifier s (sign ∷ (ys ++ (d ∷ [])))
      longer [] l b e = absurd (omega arith)
      longer (y ∷ ys) l b e =
          record { sign = sign; first = y; others = ys ++ (d ∷ []); whole = refl; start = g; continued = (b.0, joined ys b.1) }
        where
          joined : (zs : Characters) → All (IsContinue s) zs → All (IsContinue s) (zs ++ (d ∷ []))
          joined [] k = (e, tt)
          joined (z ∷ zs) k = (k.0, joined zs k.1)

      go : (b : Bool) → continues s d ≡ b → run_of s (d ∷ ds) ≡ []
      go true e =
          let l = m (sign ∷ (xs ++ (d ∷ []))) ds (ap (λ (r : Characters). sign ∷ r) (sym (append_assoc xs (d ∷ []) ds))) (longer xs h a e) in
          absurd (omega (arith, length-append xs (d ∷ [])))
      go false e = run_no s d ds e

  -- every hashtag is found
  first_found : (free : Bool) (p : ℕ) (c : Character) (r : Characters) (t : Span) (units after : Characters) → c ∷ r ≡ units ++ after
      → Identifier s units → ((v w : Characters) → units ++ after ≡ v ++ w → Identifier s v → length v ≤ length units)
      → free ≡ true → t.start ≡ p → t.end ≡ p + width_of units → Has t (span_by (free && signs c) p (p + c.width) (run_of s r))
  first_found free p c r t units after w i m f b e =
      let k : c ∷ r ≡ i.sign ∷ ((i.first ∷ i.others) ++ after) = w ∙ ap (λ (l : Characters). l ++ after) i.whole in
      let x : c ≡ i.sign = cc in
      let y : r ≡ (i.first ∷ i.others) ++ after = cc in
      let n = run_ends i.sign (i.first ∷ i.others) after i.start (omega arith) i.continued
      (λ v z q j. subst (λ (u : Characters). (v z : Characters) → u ++ after ≡ v ++ z → Identifier s v → length v ≤ length u) i.whole m v z q j) in
      let o : run_of s r ≡ i.first ∷ i.others = ap (run_of s) y ∙ run_append s (i.first ∷ i.others) after i.continued ∙ rw n (append-nil (i.first ∷ i.others)) in
      let g : (free && signs c) ≡ true = rw (f, x) i.start in
      let z : t ≡ record { start = p; end = p + c.width + width_of (run_of s r) } = places (ap width_of i.whole) x (ap width_of o) in
      subst (Has t) (sym (ap (λ (h : Bool). span_by h p (p + c.width) (run_of s r)) g ∙ span_by_lem p (p + c.width) (run_of s r) (omega (arith, ap length o)))) (inl z)
    where
      places : width_of units ≡ i.sign.width + width_of (i.first ∷ i.others) → c ≡ i.sign → width_of (run_of s r) ≡ width_of (i.first ∷ i.others)
          → t ≡ record { start = p; end = p + c.width + width_of (run_of s r) }
      places u x o =
          let v = ap (λ (d : Character). d.width) x in
          let q : t.end ≡ p + c.width + width_of (run_of s r) = omega arith in
          (λ j. record { start = b j; end = q j })

  pub found_all : (free : Bool) (p : ℕ) (cs : Characters) (t : Span) → TagIn free p cs t → Has t (hashtags_from s free p cs)
  unfolding hashtags_from
  found_all free p [] t h =
      let l = ap length h.whole in
      let i = ap length h.identifier.whole in
      absurd (omega (arith, length-append h.before (h.units ++ h.after), length-append h.units h.after))
  found_all free p (c ∷ r) t h = go h.before h.whole h.alone h.start h.end (λ k. found_all (not (continues s c)) (p + c.width) r t k)
    where
      go : (before : Characters) → c ∷ r ≡ before ++ (h.units ++ h.after) → AloneAfter free before → t.start ≡ p + width_of before
          → t.end ≡ p + width_of before + width_of h.units → (TagIn (not (continues s c)) (p + c.width) r t → Has t (hashtags_from s (not (continues s c)) (p + c.width) r))
          → Has t (span_by (free && signs c) p (p + c.width) (run_of s r) ++ hashtags_from s (not (continues s c)) (p + c.width) r)
      go [] w a b e f = has_left t (span_by (free && signs c) p (p + c.width) (run_of s r)) (hashtags_from s (not (continues s c)) (p + c.width) r) (first_found free p c r t h.units h.after w h.identifier h.longest a (omega arith) (omega arith))
      go (d ∷ ds) w a b e f =
          let x : d ≡ c = cc in
          let y : r ≡ ds ++ (h.units ++ h.after) = cc in
          let v = ap (λ (d : Character). d.width) x in
          has_right t (span_by (free && signs c) p (p + c.width) (run_of s r)) (hashtags_from s (not (continues s c)) (p + c.width) r)
          (f (record {
            before = ds;
            units = h.units;
            after = h.after;
            whole = y;
            identifier = h.identifier;
            longest = h.longest;
            alone = subst (λ (d : Character). AloneAfter (not (continues s d)) ds) x a;
            start = omega arith;
            end = omega arith;
          }))

  -- the same of the hashtags of all characters
  pub in_of : (cs : Characters) (t : Span) → HashtagAt s cs t → TagIn true 0 cs t
  in_of cs t h =
      let g = h.hashtag in
      record {
        before = h.before;
        units = h.units;
        after = h.after;
        whole = g.whole;
        identifier = g.identifier;
        longest = g.longest;
        alone = alone_in true h.before (λ e. refl) g.alone;
        start = omega (arith, h.start);
        end = omega (arith, h.end);
      }

  pub of_in : (cs : Characters) (t : Span) → TagIn true 0 cs t → HashtagAt s cs t
  of_in cs t h =
      record {
        before = h.before;
        units = h.units;
        after = h.after;
        hashtag = record { whole = h.whole; identifier = h.identifier; longest = h.longest; alone = λ b c e k. alone_out true b c (subst (AloneAfter true) e h.alone) k };
        start = omega (arith, h.start);
        end = omega (arith, h.end);
      }

  -- the hashtags rise, where every character has a byte at least
  pub rising_from : (p q : ℕ) (ts : List Span) → p ≤ q → SpansRise q ts → SpansRise p ts
  rising_from p q [] h r = tt
  rising_from p q (t ∷ ts) h r = (omega (arith, r.0), r.1, r.2)

  pub found_rise : (free : Bool) (p : ℕ) (cs : Characters) → All Wide cs → SpansRise (p + width_of (run_of s cs)) (hashtags_from s free p cs)
  unfolding hashtags_from
  found_rise free p [] w = tt
  found_rise free p (c ∷ r) w = go (continues s c) refl (found_rise (not (continues s c)) (p + c.width) r w.1)
    where
      by : (b : Bool) (run : Characters) → SpansRise (p + c.width + width_of run) (hashtags_from s (not (continues s c)) (p + c.width) r)
          → SpansRise p (span_by b p (p + c.width) run ++ hashtags_from s (not (continues s c)) (p + c.width) r)
      by b [] h = rising_from p (p + c.width + 0) (hashtags_from s (not (continues s c)) (p + c.width) r) (omega arith) h
      by false (d ∷ ds) h = rising_from p (p + c.width + width_of (d ∷ ds)) (hashtags_from s (not (continues s c)) (p + c.width) r) (omega arith) h
      by true (d ∷ ds) h = (omega arith, omega (arith, w.0), h)

      go : (b : Bool) → continues s c ≡ b → SpansRise (p + c.width + width_of (run_of s r)) (hashtags_from s (not (continues s c)) (p + c.width) r)
          → SpansRise (p + width_of (run_of s (c ∷ r))) (span_by (free && signs c) p (p + c.width) (run_of s r) ++ hashtags_from s (not (continues s c)) (p + c.width) r)
      go true e h =
          let n = ap width_of (run_yes s c r e) in
          let x = ap (λ (b : Bool). free && b) (no_sign s c.code e) ∙ and_false free in
          let y = ap (λ (b : Bool). span_by b p (p + c.width) (run_of s r)) x ∙ no_span p (p + c.width) (run_of s r) in
          rw y (rising_from (p + width_of (run_of s (c ∷ r))) (p + c.width + width_of (run_of s r)) (hashtags_from s (not (continues s c)) (p + c.width) r) (omega arith) h)
      go false e h =
          let n = ap width_of (run_no s c r e) in
          rising_from (p + width_of (run_of s (c ∷ r))) p (span_by (free && signs c) p (p + c.width) (run_of s r) ++ hashtags_from s (not (continues s c)) (p + c.width) r) (omega arith) (by (free && signs c) (run_of s r) h)

  -- no hashtag of no characters
  pub found_none : (free : Bool) (p : ℕ) → hashtags_from s free p [] ≡ []
  unfolding hashtags_from
  found_none free p = refl

  -- at a character one begins, or none does
  pub found_begins : (free : Bool) (p : ℕ) (c : Character) (r : Characters) → free ≡ true → signs c ≡ true → 0 < length (run_of s r)
      → hashtags_from s free p (c ∷ r) ≡ record { start = p; end = p + c.width + width_of (run_of s r) } ∷ hashtags_from s true (p + c.width) r
  unfolding hashtags_from
  found_begins free p c r f g h = rw (f, g, sign_free (continues s c) refl) (ap (λ (l : List Span). l ++ hashtags_from s true (p + c.width) r) (span_by_lem p (p + c.width) (run_of s r) h))
    where
      sign_free : (b : Bool) → continues s c ≡ b → continues s c ≡ false
      sign_free true e = impossible (cc (no_sign s c.code e))
      sign_free false e = e

  pub found_passes : (free : Bool) (p : ℕ) (c : Character) (r : Characters) → (signs c ≡ false) ⊎ ((free ≡ false) ⊎ (run_of s r ≡ []))
      → hashtags_from s free p (c ∷ r) ≡ hashtags_from s (not (continues s c)) (p + c.width) r
  unfolding hashtags_from
  found_passes free p c r h = ap (λ (l : List Span). l ++ hashtags_from s (not (continues s c)) (p + c.width) r) (go h)
    where
      go : (signs c ≡ false) ⊎ ((free ≡ false) ⊎ (run_of s r ≡ [])) → span_by (free && signs c) p (p + c.width) (run_of s r) ≡ []
      go (inl e) = rw (e, and_false free) (no_span p (p + c.width) (run_of s r))
      go (inr (inl e)) = rw e (no_span p (p + c.width) (run_of s r))
      go (inr (inr e)) = rw e
