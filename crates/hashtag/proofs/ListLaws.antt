-- Counting the hashtags of a text and writing their words, one hashtag after the other. Assumes nothing.
use Prim.Native.Nat.{ℕ, ◌+◌, ◌-◌, ◌*◌, ◌≤◌}
use mathlib.Core.Path.{◌≡◌, refl, sym, ap, ◌∙◌}
use mathlib.Core.Bool.{true}
use mathlib.Core.List.{List, [], ◌∷◌, ◌++◌, append_assoc}
use native.Mathlib.Omega.{arith}
use lib.ListN.{length, take, drop, length-append, length-take, length-drop}
use borrow.Rule.Slice.PartMut.{put_mid}
use Rattle.std.specs.Prelude.{Ok, Err}
use Rattle.lists.specs.Laid.{laid}
use Rattle.lists.proofs.LaidLaws.{laid_none, laid_step, length-laid, lent}
use Rattle.utf8.specs.Text.{characters_at, width_of, text_of, shift, Form}
use Rattle.utf8.proofs.TextLaws.{shift_zero}
use Rattle.line.specs.Line.{LineAt}
use Rattle.line.proofs.LineLaws.{line_begins}
use Rattle.grammar.specs.Record.{record_size, token_words}
use Rattle.hashtag.specs.Find.{Span, run_of, hashtags_of}
use Rattle.hashtag.specs.Listed.{hashtag_kind, span_words, spans_words, hashtags_through, counted_through, closed_by}
use Rattle.hashtag.specs.Seek.{hashtags_at, SignFound, NoneFound}
use Rattle.hashtag.specs.declared.Sign.{Sign}

-- the words of hashtags
module _ (text : List ℕ) where
  length_words : (ts : List Span) → length (spans_words text ts) ≡ record_size * length ts
  length_words [] = refl
  length_words (t ∷ ts) = omega (arith, length_words ts)

  words_append : (ts us : List Span) → spans_words text (ts ++ us) ≡ spans_words text ts ++ spans_words text us
  words_append [] us = refl
  words_append (t ∷ ts) us = ap (λ (l : List ℕ). span_words text t ++ l) (words_append ts us)

module _ (s text : List ℕ) where
  -- the text is well-formed up to a place, from which on hashtags are still to be found
  pub record Reached (at : ℕ) : Type 0 where
    pub within : at ≤ length text
    pub form : shift at (text_of (drop at text)) ≡ text_of text

  reached_begins : Reached 0
  reached_begins = record { within = omega arith; form = shift_zero (text_of text) }

  reached_next : {at : ℕ} {r : Sign} → Reached at → SignFound s text at r → Reached r.next
  reached_next i h = record { within = h.within; form = h.form ∙ i.form }

  -- so many were counted
  pub record Counting (count at : ℕ) : Type 0 where
    pub reached : Reached at
    pub few : count ≤ at
    pub sum : count + length (hashtags_at s text true at) ≡ length (hashtags_of s text)

  pub counting_begins : Counting 0 0
  unfolding hashtags_of
  counting_begins = record { reached = reached_begins; few = omega arith; sum = omega arith }

  -- the answer, by what is said of the text from a place on
  closes : (at count : ℕ) (t : Form) → shift at t ≡ text_of text → length (hashtags_of s text) ≡ count → closed_by at count t ≡ counted_through s text
  unfolding counted_through hashtags_through
  closes at count (Ok u) e n = rw (sym e) (ap Ok (sym n))
  closes at count (Err i) e n = rw (sym e)

  pub counting_closes : {count at end : ℕ} → Counting count at → NoneFound s text at end → closed_by end count (text_of (drop end text)) ≡ counted_through s text
  counting_closes {count} {at} {end} i h =
      closes end count (text_of (drop end text)) (h.form ∙ i.reached.form) (omega (arith, i.sum, ap length h.none))

  -- those that were found are in the buffer, up to word w; the place has this line
  pub record Writing (out₀ out : List ℕ) (w at line : ℕ) : Type 0 where
    pub reached : Reached at
    pub lined : LineAt text at line
    pub done : List Span
    pub all : hashtags_of s text ≡ done ++ hashtags_at s text true at
    pub placed : w ≡ length (spans_words text done)
    pub long : length out ≡ length out₀
    pub same : out ≡ laid out₀ 0 (spans_words text done)

  pub writing_begins : (out : List ℕ) → Writing out out 0 0 1
  unfolding hashtags_of
  writing_begins out =
      record { reached = reached_begins; lined = line_begins text; done = []; all = refl; placed = refl; long = refl; same = sym (laid_none out 0) }

  module _ {out₀ out : List ℕ} {w at line : ℕ} (i : Writing out₀ out w at line) where
    -- one more
    module _ {r : Sign} (h : SignFound s text at r) (room : record_size * length (hashtags_of s text) ≤ length out₀) where
      abbrev found : Span
      found = record { start = r.at; end = r.next + width_of (run_of s (characters_at text r.next)) }

      pub next_fits : w + record_size ≤ length out₀
      next_fits =
          omega (arith, i.placed, length_words text i.done, ap length i.all, length-append i.done (hashtags_at s text true at), ap length h.some, room)

      pub next_room : w + record_size ≤ length out
      next_room = omega (arith, next_fits, i.long)

      pub next_part : record_size ≤ length (take (length out - w) (drop w out))
      next_part = simp (length-take, length-drop) (omega (arith, next_room))

      pub next_put : {n : ℕ} → LineAt text r.at n → LineAt text r.next n → (end : ℕ) (ys : List ℕ) → end ≡ found.end
          → ys ≡ laid (take (length out - w) (drop w out)) 0 (token_words hashtag_kind r.at end n) → Writing out₀ (put_mid w (length out - w) out ys) (w + record_size) r.next n
      next_put a b end ys e f =
          let xs = spans_words text i.done in
          let zs = span_words text found in
          let g = f ∙ (λ j. laid (take (length out - w) (drop w out)) 0 (token_words hashtag_kind r.at (e j) (a.same j))) in
          let z : 0 + length xs ≡ w = omega (arith, i.placed) in
          let q = next_fits in
          let v : spans_words text (i.done ++ (found ∷ [])) ≡ xs ++ zs = words_append text i.done (found ∷ []) in
          let m : put_mid w (length out - w) out ys ≡ laid out₀ 0 (spans_words text (i.done ++ (found ∷ []))) =
          lent out zs w next_room ys g ∙ (λ j. laid (i.same j) (sym z j) zs) ∙ sym (laid_step out₀ xs 0 (omega (arith, i.placed)) zs) ∙ ap (laid out₀ 0) (sym v) in
          record {
            reached = reached_next i.reached h;
            lined = b;
            done = i.done ++ (found ∷ []);
            all = i.all ∙ ap (λ (ts : List Span). i.done ++ ts) h.some ∙ sym (append_assoc i.done (found ∷ []) (hashtags_at s text true r.next));
            placed = omega (arith, i.placed, ap length v, length-append xs zs);
            long = ap length m ∙ length-laid out₀ (spans_words text (i.done ++ (found ∷ []))) 0 (omega (arith, i.placed, ap length v, length-append xs zs));
            same = m;
          }
