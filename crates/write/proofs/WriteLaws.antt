-- Records written one after the other from the starts of their tokens. Assumes nothing.
use Prim.Native.Nat.{ℕ, ◌+◌, ◌-◌, ◌*◌, ◌/◌, ◌%◌, ◌≤◌, ◌<◌}
use mathlib.Core.Path.{◌≡◌, refl, sym, ap, subst, ◌∙◌}
use mathlib.Core.Bool.{Bool, true, false, true≢false, not, ◌||◌}
use mathlib.Core.List.{List}
use mathlib.Core.Option.{none}
use native.Mathlib.Nat.{add_assoc, add-zero}
use native.Mathlib.Decide.{dec_lt}
use native.Mathlib.Omega.{arith}
use lib.Dec.{eqb}
use lib.ListN.{length, take, drop, get_or}
use borrow.Author.Tests.{eq-eqb}
use borrow.Rule.Slice.PartMut.{put_mid}
use Rattle.lists.proofs.BoolLaws.{or_left, or_right}
use Rattle.lists.specs.Laid.{laid}
use Rattle.lists.specs.Writing.{Writing}
use Rattle.lists.proofs.LaidLaws.{lent, length-laid}
use Rattle.lists.proofs.WritingLaws.{writing_lent}
use Rattle.line.specs.Line.{LineAt}
use Rattle.image.specs.Check.{refusal_of}
use Rattle.grammar.specs.Before.{max_text}
use Rattle.grammar.specs.Record.{record_size, token_words}
use Rattle.turns.specs.Turns.{after_of}
use Rattle.turns.specs.Starts.{StartOf}
use Rattle.write.specs.Records.{record_at, Plain, Spans, Listing, place_after, Piece, WrittenTo, Wrote}
use Rattle.write.specs.declared.Written.{Written}
use Rattle.write.proofs.SpanLaws.{line_within, span_within}
use Rattle.write.proofs.StartLaws.{place_here, spans_here, record_here}
use Rattle.write.proofs.PlainLaws.{line_past}

-- k records more stand in the buffer than when `before` was lent, and `line` is that of the byte after them
pub record Going (s text before : List ℕ) (done total : ℕ) (out : List ℕ) (w line k : ℕ) : Type 0 where
  pub words : w ≡ record_size * (done + k)
  pub lined : LineAt text (place_after s text (done + k)) line
  pub size : length out ≡ length before
  pub wrote : Wrote s text before out done k total

pub going_begins : {s text before : List ℕ} {done total : ℕ} {r : Written} → WrittenTo s text done r →
    Going s text before done total before r.w r.line 0
going_begins {s} {text} {before} {done} {total} {r} h =
    let z : done ≡ done + 0 = sym (add-zero done) in
    record {
      words = omega (arith, h.words);
      lined = subst (λ (n : ℕ). LineAt text (place_after s text n) r.line) z h.lined;
      size = refl;
      wrote = λ first x. subst (Writing (record_at s text) record_size total first before) z x;
    }

-- all of them are written
pub going_ends : {s text before out : List ℕ} {done total w line k n : ℕ} → Going s text before done total out w line k → k ≡ n →
    WrittenTo s text (done + n) (record { w = w; line = line }) × (Wrote s text before out done n total × (length out ≡ length before))
going_ends {s} {text} {before} {out} {done} {total} {w} {line} i e = (
  record { words = omega (arith, i.words); lined = subst (λ (m : ℕ). LineAt text (place_after s text (done + m)) line) e i.lined },
  (subst (λ (m : ℕ). Wrote s text before out done m total) e i.wrote, i.size),
)

module _ {s text before starts out : List ℕ} {done n total w line k : ℕ} (l : Listing s text before total) (p : Piece s text starts done n total)
    (i : Going s text before done total out w line k) (b : k < n) where
  abbrev c : ℕ
  c = get_or starts k 0

  abbrev end : ℕ
  end = get_or starts (k + 1) 0 / 16

  start : StartOf s text (done + k) c
  start = p.started.each k b

  ends : end ≡ place_after s text (done + k + 1)
  ends = go (dec_lt (k + 1) n) ∙ ap (place_after s text) (sym (add_assoc done k 1))
    where
      go : Dec (k + 1 < n) → end ≡ place_after s text (done + (k + 1))
      go (yes h) = sym (place_here (p.started.each (k + 1) h))
      go (no h) =
          let e : k + 1 ≡ n = omega arith in
          ap (λ (m : ℕ). get_or starts m 0 / 16) e ∙ p.ended ∙ ap (λ (m : ℕ). place_after s text (done + m)) (sym e)

  pub turn_lined : LineAt text (c / 16) line
  turn_lined = subst (λ (m : ℕ). LineAt text m line) (place_here start) i.lined

  pub turn_spans : Spans text (c / 16) end
  turn_spans = spans_here start ends

  pub turn_short : (c / 16 ≤ max_text) × (end ≤ max_text)
  turn_short = (omega (arith, line_within turn_lined, l.short), omega (arith, span_within turn_lined turn_spans, l.short))

  pub turn_room : w + record_size ≤ length out
  turn_room = omega (arith, i.words, i.size, l.room, p.few)

  -- a line that a token's kind and the line ends elsewhere leave as it is
  pub turn_stays : {kind : ℕ} {plain : Bool} → refusal_of s ≡ none → (plain ≡ true → Plain s) → kind ≡ after_of (c % 16) → (eqb kind 4 || not plain) ≡ false → LineAt text end line
  turn_stays {kind} {plain} ok q e f = go plain refl
    where
      go : (a : Bool) → plain ≡ a → LineAt text end line
      go true g = line_past s ok (q g) start ends (λ z. true≢false (sym (or_left (eqb kind 4) (not plain) (eq-eqb kind 4 (e ∙ z))) ∙ f)) turn_lined
      go false g = absurd (true≢false (sym (or_right (eqb kind 4) (not plain) (ap not g)) ∙ f))

  module _ {kind line' : ℕ} (e : kind ≡ after_of (c % 16)) (i' : LineAt text end line') (ys : List ℕ)
      (h : ys ≡ laid (take (length out - w) (drop w out)) 0 (token_words kind (c / 16) end line)) where
    abbrev ws : List ℕ
    ws = token_words kind (c / 16) end line

    same : record_at s text (done + k) ≡ ws
    same = record_here start ends turn_lined e

    next : done + k + 1 ≡ done + (k + 1)
    next = add_assoc done k 1

    pub going_next : Going s text before done total (put_mid w (length out - w) out ys) (w + record_size) line' (k + 1)
    going_next =
        record {
          words = omega (arith, i.words);
          lined = subst (λ (m : ℕ). LineAt text m line') (ends ∙ ap (place_after s text) next) i';
          size = ap length (lent out ws w turn_room ys h) ∙ length-laid out ws w turn_room ∙ i.size;
          wrote = wrote;
        }
      where
        wrote : Wrote s text before (put_mid w (length out - w) out ys) done (k + 1) total
        wrote first x =
            let y = i.wrote first x in
            let q = record_size * (done + k) in
            let g : ys ≡ laid (take (length out - q) (drop q out)) 0 (record_at s text (done + k)) =
            h ∙ (λ j. laid (take (length out - i.words j) (drop (i.words j) out)) 0 (sym same j)) in
            let f : length out ≡ length first = y.size in
            let z = writing_lent y (ap length same) (omega (arith, i.size, l.room)) (omega (arith, p.few)) ys g in
            subst (λ (m : ℕ). Writing (record_at s text) record_size total first (put_mid m (length out - m) out ys) (done + (k + 1))) (sym i.words)
            (subst (Writing (record_at s text) record_size total first (put_mid q (length out - q) out ys)) next z)
