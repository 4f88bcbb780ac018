-- What the starts of a text's tokens tell at its end. Assumes nothing.
use Prim.Native.Nat.{ℕ, zero, suc, ◌+◌, ◌-◌, ◌*◌, ◌/◌, ◌≤◌, ◌<◌}
use mathlib.Core.Path.{◌≡◌, refl, sym, ap, subst, ◌∙◌}
use mathlib.Core.Bool.{Bool, true, false}
use mathlib.Core.List.{List, [], ◌∷◌, ◌++◌, append-nil}
use mathlib.Core.Option.{Option, none, some}
use native.Mathlib.Omega.{arith}
use native.Mathlib.Decide.{dec_lt}
use lib.ListN.{length, get_or, set, length-append, length-drop, length-set}
use lib.Seq.{take_all, get_or-set_same}
use lib.Dec.{eqb, ltb}
use borrow.Author.Tests.{eqb-false, ne_eqb, lt-ltb, le-ltb}
use Rattle.std.specs.Prelude.{Ok, Err}
use Rattle.lists.specs.Laid.{laid}
use Rattle.lists.proofs.BoolLaws.{impossible}
use Rattle.lists.proofs.LaidLaws.{laid_none}
use Rattle.refusal.specs.declared.Refusal.{Refusal}
use Rattle.refusal.specs.Outcome.{unless, outcome_map}
use Rattle.utf8.specs.Text.{Character, decode, text_of, width_of, Form}
use Rattle.utf8.proofs.TextLaws.{decode_covers, well_rest}
use Rattle.grammar.specs.Scan.{Tok, units_of}
use Rattle.grammar.specs.Grammar.{Kind, Token}
use Rattle.grammar.specs.Record.{tokens_width, listed_words}
use Rattle.grammar.specs.Reading.{meaning_of, reading_of, tokens_of, form_refusal_by, mark_refusal, judged, read_through}
use Rattle.grammar.specs.Counted.{counted_by, count_through}
use Rattle.grammar.proofs.DivisionLaws.{division_covers}
use Rattle.grammar.proofs.GrammarLaws.{tokens_divide}
use Rattle.grammar.proofs.RecordLaws.{tokens_width_lem}
use Rattle.turns.specs.Starts.{StartOf, Started}
use Rattle.turns.proofs.StartLaws.{started_set, started_more}
use Rattle.count.specs.Turns.{count_waiting, count_pending_of}
use Rattle.count.specs.Rules.{traits_for}
use Rattle.count.specs.Counting.{CountingAs, finished_by}
use Rattle.count.specs.declared.Run.{Run}
use Rattle.count.proofs.CountLaws.{counting_begins, finishes, counting_settles, settles_end}
use Rattle.count.proofs.StepLaws.{traits_kind}
use Rattle.mark.specs.Marking.{Marking}
use Rattle.mark.proofs.MarkLaws.{traits_small, start_counted}
use Rattle.write.specs.Records.{place_after}
use Rattle.token.specs.Ended.{Ended}

-- a text that is counted is well-formed, and each of its characters is in a token
pub record Whole (s text : List ℕ) (total : ℕ) : Type 0 where
  pub form : text_of text ≡ Ok tt
  pub none_left : (reading_of s text).left ≡ []
  pub number : length (tokens_of s text) ≡ total

pub whole : (s text : List ℕ) (total : ℕ) → count_through s text ≡ Ok total → Whole s text total
unfolding count_through read_through
whole s text total e = go (text_of text) (reading_of s text).left refl refl (mark_refusal s (tokens_of s text)) refl e
  where
    go : (f : Form) (l : List Character) → text_of text ≡ f → (reading_of s text).left ≡ l → (o : Option Refusal) → mark_refusal s (tokens_of s text) ≡ o →
        counted_by (outcome_map length (unless (form_refusal_by f) (judged s (tokens_of s text) l))) ≡ Ok total → Whole s text total
    go (Err i) l g h o m q = impossible (cc)
    go (Ok u) (c ∷ r) g h o m q = impossible (cc)
    go (Ok u) [] g h (some x) m q = impossible (cc)
    go (Ok u) [] g h none m q = record { form = g; none_left = h; number = let z = rw m at q in cc }

-- its tokens have all its bytes
all_bytes : {s text : List ℕ} {total : ℕ} → Whole s text total → tokens_width (tokens_of s text) ≡ length text
unfolding reading_of
all_bytes {s} {text} a =
    let ts = tokens_of s text in
    let cs = (decode text).characters in
    let d = division_covers (Token (meaning_of s)) (tokens_divide (meaning_of s) cs) in
    let u : cs ≡ units_of ts = d ∙ ap (λ (l : List Character). units_of ts ++ l) a.none_left ∙ append-nil (units_of ts) in
    let c = decode_covers text in
    let r = ap length (c.after ∙ well_rest text a.form) in
    tokens_width_lem ts ∙ ap width_of (sym u) ∙ omega (arith, c.within, r, length-drop (width_of cs) text)

pub place_end : (s text : List ℕ) (total : ℕ) → count_through s text ≡ Ok total → place_after s text total ≡ length text
place_end s text total e =
    let a = whole s text total e in
    ap tokens_width (take_all total (tokens_of s text) (omega (arith, a.number))) ∙ all_bytes a

-- a token that has a start is one of them
pub start_few : {s text : List ℕ} {k c total : ℕ} → StartOf s text k c → count_through s text ≡ Ok total → k < total
start_few {s} {text} {k} {c} {total} h e =
    omega (arith, (whole s text total e).number, ap length h.parted, length-append h.front (h.token ∷ h.back), h.number)

-- at the text's end no medial waits that begins nothing, and what is pending are the last tokens
pub ends_at : (s text : List ℕ) (run : Run) (total : ℕ) → CountingAs s text run → length text ≤ run.at → count_through s text ≡ Ok total →
    (run.state ≡ count_waiting → ⊥) × (total ≡ run.count + count_pending_of run.state)
ends_at s text run total i h e = go (eqb run.state count_waiting) (ltb run.refused (length text)) refl refl (finishes s text run i h ∙ e)
  where
    go : (a b : Bool) → eqb run.state count_waiting ≡ a → ltb run.refused (length text) ≡ b → finished_by text run ≡ Ok total →
        (run.state ≡ count_waiting → ⊥) × (total ≡ run.count + count_pending_of run.state)
    go true b f g q = let z = rw f at q in impossible (cc)
    go false true f g q = let z = rw (f, g) at q in impossible (cc)
    go false false f g q = (eqb-false run.state count_waiting f, let z = rw (f, g) at q in cc)

-- how many tokens are pending
pending_one : (n : ℕ) → 0 < n → n < count_waiting → count_pending_of n ≡ 1
pending_one n h l = rw (ne_eqb n 0 (λ z. absurd (omega arith)), lt-ltb n count_waiting l)

pending_both : (n : ℕ) → count_waiting ≤ n → count_pending_of n ≡ 2
pending_both n l = rw (ne_eqb n 0 (λ z. absurd (omega arith)), le-ltb n count_waiting l)

less_of : (n : ℕ) → n ≤ count_waiting → (n ≡ count_waiting → ⊥) → n < count_waiting
less_of n l f = go (dec_lt n count_waiting)
  where
    go : Dec (n < count_waiting) → n < count_waiting
    go (yes h) = h
    go (no h) = absurd (f (omega arith))

-- the starts of a text that is marked to its end: of the token under way, and of a medial that waits
module _ {s text starts : List ℕ} {done : ℕ} {run : Run} (m : Marking s text starts done run) (h : length text ≤ run.at) where
  abbrev n : ℕ
  n = run.count - done + 1

  ended_by : (starts' : List ℕ) (k : ℕ) → Started s text starts' done k → get_or starts' k 0 / 16 ≡ length text →
      ((total : ℕ) → count_through s text ≡ Ok total → done + k ≡ total) → Ended s text starts' done k
  ended_by starts' k a b e =
      record {
        piece = λ total c. record { started = a; ended = b ∙ sym (place_end s text total c) ∙ ap (place_after s text) (sym (e total c)); few = omega (arith, e total c) };
        all = e;
      }

  put_end : (xs : List ℕ) (k : ℕ) → k < length xs → get_or (set xs k (16 * length text + traits_for 0)) k 0 / 16 ≡ length text
  unfolding traits_for
  put_end xs k l = let e = get_or-set_same xs k (16 * length text + traits_for 0) 0 l in omega (arith, e)

  -- no medial waits
  pub ended_plain : run.state ≤ count_waiting → Ended s text (set starts n (16 * length text + traits_for 0)) done n
  ended_plain l =
      ended_by _ n (started_set n n _ (omega arith) m.started) (put_end starts n (omega (arith, m.room)))
      (λ total c.
      let x = ends_at s text run total m.counting h c in
      omega (arith, x.1, pending_one run.state m.some (less_of run.state l x.0), m.from))

  -- one does
  pub ended_waiting : count_waiting < run.state →
      Ended s text (set (set starts n (16 * run.mid + traits_for (run.state - count_waiting))) (n + 1) (16 * length text + traits_for 0)) done (n + 1)
  ended_waiting l =
      let i = m.counting.counting in
      let j = counting_settles i (settles_end i h) (omega arith) (λ z. absurd (omega arith)) in
      let x = 16 * run.mid + traits_for (run.state - count_waiting) in
      let c : StartOf s text (run.count + 1) x = start_counted j (omega arith) _ (traits_small (run.state - count_waiting) j.less) (traits_kind (run.state - count_waiting) j.less) in
      let e : run.count + 1 ≡ done + n = omega (arith, m.from) in
      let a = started_more n x (omega (arith, m.room)) (subst (λ (k : ℕ). StartOf s text k x) e c) m.started in
      let put = set starts n x in
      let room : n + 1 < length put = omega (arith, m.room, length-set starts n x) in
      ended_by _ (n + 1) (started_set (n + 1) (n + 1) _ (omega arith) a) (put_end put (n + 1) room)
      (λ total c.
      let y = ends_at s text run total m.counting h c in
      omega (arith, y.1, pending_both run.state (omega arith), m.from))

-- a text without bytes has no token
pub empty_counted : (s text : List ℕ) → length text ≡ 0 → Ok 0 ≡ count_through s text
empty_counted s text h =
    let run : Run = record { at = 0; state = 0; count = 0; mid = 0; mark = 0; refused = length text; rows = 0; memo = record { first = 1; last = 0; traits = 0 } } in
    let i : CountingAs s text run = record { start = 0; counting = counting_begins s text; memo = λ y a b. absurd (omega arith) } in
    let e : finished_by text run ≡ Ok 0 = rw (le-ltb (length text) (length text) (omega arith)) in
    sym e ∙ finishes s text run i (omega arith)

pub none_written : (s text out : List ℕ) → count_through s text ≡ Ok 0 → out ≡ laid out 0 (listed_words text (tokens_of s text))
none_written s text out e = go (tokens_of s text) (whole s text 0 e).number
  where
    go : (ts : List (Tok Character Kind)) → length ts ≡ 0 → out ≡ laid out 0 (listed_words text ts)
    go [] h = sym (laid_none out 0)
    go (t ∷ ts) h = absurd (omega arith)

pub not_zero : (n : ℕ) → (n ≡ 0 → ⊥) → 0 < n
not_zero zero f = absurd (f refl)
not_zero (suc n) f = omega arith
