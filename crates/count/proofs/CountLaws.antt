-- Counting by turns: the count is that of the tokens that are complete, and what stands before a mark is known. Assumes nothing.
use Prim.Native.Nat.{ℕ, ◌+◌, ◌-◌, ◌≤◌, ◌<◌}
use mathlib.Core.Path.{◌≡◌, refl, sym, ap, subst, ◌∙◌}
use mathlib.Core.Bool.{Bool, true, false, false≢true, cond}
use mathlib.Core.List.{List, [], ◌∷◌, ◌++◌, append_assoc, append-nil}
use mathlib.Core.Option.{Option, none, some}
use mathlib.Core.Logic.{inl, inr}
use native.Mathlib.Omega.{arith}
use native.Mathlib.Decide.{dec_lt, ℕ_discrete}
use lib.ListN.{length, drop, length-append}
use lib.Dec.{leb, ltb, eqb}
use borrow.Author.Tests.{eq-eqb, ne_eqb, lt-ltb, le-ltb}
use Rattle.std.specs.Prelude.{Ok, Err}
use Rattle.lists.proofs.BoolLaws.{impossible}
use Rattle.refusal.specs.declared.Refusal.{Refusal}
use Rattle.refusal.specs.declared.Refusal.TheVariants as refusal
use Rattle.refusal.specs.Outcome.{Outcome, given, refused, unless, outcome_map}
use Rattle.utf8.specs.Head.{IllHead}
use Rattle.utf8.specs.Text.{Character, decode, text_of, shift, characters_at, Form}
use Rattle.utf8.proofs.TextLaws.{text_ill, end_here}
use Rattle.grammar.specs.White.{blank, line_end, mark}
use Rattle.grammar.specs.Scan.{units_of}
use Rattle.grammar.specs.Step.{idle, under, held, tok, under_way_of, preceded, tokens_left, settle, finish}
use Rattle.grammar.specs.Division.{Division}
use Rattle.grammar.specs.Meaning.{Meaning}
use Rattle.grammar.specs.Grammar.{Kind, identifier, syntax, whitespace, Token}
use Rattle.grammar.specs.Kinds.{kind_number, kind_of}
use Rattle.grammar.specs.Record.{tokens_width}
use Rattle.grammar.specs.Second.{first_refused}
use Rattle.grammar.specs.Beside.{View, other, after_identifier, after_medial, mark_after_identifier, mark_after_medial, medial_after_mark, next_view, marked_view, refused_by, either, medial_first, refused_from}
use Rattle.grammar.specs.Reading.{meaning_of, reading_of, tokens_of, form_refusal_by, mark_refusal_by, mark_refusal, judged}
use Rattle.grammar.proofs.DivisionLaws.{division_covers}
use Rattle.grammar.proofs.GrammarLaws.{tokens_divide}
use Rattle.grammar.proofs.RecordLaws.{tokens_append}
use Rattle.grammar.proofs.StepLaws.{Settles}
use Rattle.grammar.proofs.BesideLaws.{place_of, view_of, view_snoc, refused_append, beside_second}
use Rattle.turns.specs.Turns.{number_by, waiting, trait_meaning, turn_of, after_of, waiting_of, start_by}
use Rattle.grammar.specs.Reading.{read_through}
use Rattle.grammar.specs.Counted.{counted_by, count_through, stop_refusal}
use Rattle.turns.proofs.TurnLaws.{Tokens, Under, L, Stands, kind_less, number_less, Going, Comes, first, grown, passed, begun, done_by, left}
use Rattle.turns.proofs.ReachLaws.{Place, Look, at_end, Reached, reached_begins, After, complete_few, after_settling, left_settled, settles_none, read_end, after_turn, after_waiting, settles_here, left_here}
use Rattle.count.specs.Turns.{Side, free, of_identifier, of_medial, of_identifier_mark, of_medial_mark, of_mark_medial, placed, side_named, plain_of, view_by, goes_by, count_turn_of, count_waiting, count_states, count_after_of, count_waiting_of, count_pending_of, count_beside, state_beside, mark_beside, refused_beside, state_for}
use Rattle.count.specs.Counting.{RefusedAt, Seen, Counting, CountingAs, CountLook, finished_by}
use Rattle.count.specs.declared.Run.{Run}
use Rattle.count.proofs.BesideTurnLaws.{plain_view, Told, goes, stays, begins, begins_none, waits, settles, stops, told, told_same, apart, marks, links, joins, plain_state, plain_side, state_less, settled_state, settled_view, stated, waits_turn, identifier_turn, refused_more}

abbrev M : List ℕ → Meaning Character
M s = meaning_of s

pub counting_begins : (s text : List ℕ) → Counting s text 0 0 0 0 0 (length text) 0
counting_begins s text =
    record { tokens = []; under_way = idle; reached = reached_begins s text; less = omega arith; counted = refl; began = refl; place = omega arith; seen = record { view = refl; first = refl } }

-- one more token
either_none : (o : Option ℕ) → either o none ≡ o
either_none none = refl
either_none (some p) = refl

module _ (s text : List ℕ) (ts : Tokens) (k : Kind) (u : List Character) {state q refused : ℕ} (i : Seen s text ts state q refused) where
  refused_next : refused_from (M s) other 0 (ts ++ tok k u ∷ []) ≡ either (refused_from (M s) other 0 ts) (refused_by (view_by state q) k)
  refused_next =
      refused_append (M s) other 0 ts (tok k u ∷ [])
      ∙ ap (either (refused_from (M s) other 0 ts)) (either_none (refused_by (view_of (M s) ts) k) ∙ ap (λ v. refused_by v k) (sym i.view))

  view_next : (b : Bool) → medial_first (M s) u ≡ b → view_of (M s) (ts ++ tok k u ∷ []) ≡ next_view (view_by state q) (tokens_width ts) k b
  view_next b e = view_snoc (M s) ts (tok k u) ∙ (λ j. next_view (sym i.view j) (tokens_width ts) k (e j))

  -- .. that makes no mark refused
  seen_next : (state' q' : ℕ) (b : Bool) → medial_first (M s) u ≡ b → refused_by (view_by state q) k ≡ none →
      view_by state' q' ≡ next_view (view_by state q) (tokens_width ts) k b → Seen s text (ts ++ tok k u ∷ []) state' q' refused
  seen_next state' q' b e f g =
      record {
        view = g ∙ sym (view_next b e);
        first = subst (λ o. RefusedAt (length text) o refused) (sym (refused_next ∙ ap (either (refused_from (M s) other 0 ts)) f ∙ either_none (refused_from (M s) other 0 ts))) i.first;
      }

  -- .. that makes one refused
  seen_joined : refused_by (view_by state q) k ≡ some q → q < length text → k ≡ identifier →
      Seen s text (ts ++ tok k u ∷ []) 1 q (refused_beside 7 refused q (length text))
  seen_joined f h e =
      record {
        view = sym (view_next (medial_first (M s) u) refl ∙ ap (λ j. next_view (view_by state q) (tokens_width ts) j (medial_first (M s) u)) e);
        first =
            subst (λ o. RefusedAt (length text) o (refused_beside 7 refused q (length text))) (sym (refused_next ∙ ap (either (refused_from (M s) other 0 ts)) f))
            (refused_more (length text) (refused_from (M s) other 0 ts) refused q i.first h);
      }

-- a token that goes on is to a mark what it was
same_next : (v : View) (p : ℕ) (k : Kind) (a b : Bool) → (k ≡ syntax → ⊥) → next_view v p k a ≡ next_view v p k b
same_next v p identifier a b n = refl
same_next v p syntax a b n = absurd (n refl)
same_next v p (whitespace w) a b n = refl

seen_grown : (s text : List ℕ) (ts : Tokens) (k : Kind) (u v : List Character) {state q refused : ℕ} → (k ≡ syntax → ⊥) →
    Seen s text (ts ++ tok k u ∷ []) state q refused → Seen s text (ts ++ tok k v ∷ []) state q refused
seen_grown s text ts k u v {state} {q} {refused} n i =
    record {
      view =
          i.view ∙ view_snoc (M s) ts (tok k u) ∙ same_next (view_of (M s) ts) (tokens_width ts) k (medial_first (M s) u) (medial_first (M s) v) n
          ∙ sym (view_snoc (M s) ts (tok k v));
      first = subst (λ o. RefusedAt (length text) o refused) (refused_append (M s) other 0 ts (tok k u ∷ []) ∙ sym (refused_append (M s) other 0 ts (tok k v ∷ []))) i.first;
    }

-- the view of a token that goes on and isn't a mark that may be refused
abbrev may_mark : View → Bool
may_mark other = true
may_mark after_identifier = false
may_mark after_medial = false
may_mark (mark_after_identifier q) = true
may_mark (mark_after_medial q) = true
may_mark (medial_after_mark q) = false

marked_may : (v : View) (p : ℕ) → may_mark (marked_view v p) ≡ true
marked_may other p = refl
marked_may after_identifier p = refl
marked_may after_medial p = refl
marked_may (mark_after_identifier q) p = refl
marked_may (mark_after_medial q) p = refl
marked_may (medial_after_mark q) p = refl

side_plain : (d : Side) (q : ℕ) → goes_by d ≡ 0 → may_mark (placed d q) ≡ true → placed d q ≡ other
side_plain free q g e = refl
side_plain of_identifier q g e = absurd (false≢true e)
side_plain of_medial q g e = absurd (false≢true e)
side_plain of_identifier_mark q g e = absurd (omega arith)
side_plain of_medial_mark q g e = absurd (omega arith)
side_plain of_mark_medial q g e = absurd (false≢true e)

plain_next : (v : View) (p : ℕ) (k : Kind) (b : Bool) (n q : ℕ) → (k ≡ syntax → ⊥) → goes_by (side_named n) ≡ 0 → view_by n q ≡ next_view v p k b → view_by n q ≡ plain_view k
plain_next v p identifier b n q h g e = e
plain_next v p syntax b n q h g e = absurd (h refl)
plain_next v p (whitespace blank) b n q h g e = e
plain_next v p (whitespace line_end) b n q h g e = e
plain_next v p (whitespace mark) b n q h g e = side_plain (side_named n) q g (ap may_mark e ∙ marked_may v p)

other_next : (p : ℕ) (k : Kind) (b : Bool) → next_view other p k b ≡ plain_view k
other_next p identifier b = refl
other_next p syntax true = refl
other_next p syntax false = refl
other_next p (whitespace blank) b = refl
other_next p (whitespace line_end) b = refl
other_next p (whitespace mark) b = refl

other_refuses : (k : Kind) → refused_by other k ≡ none
other_refuses identifier = refl
other_refuses syntax = refl
other_refuses (whitespace w) = refl

identifier_refuses : (k : Kind) → refused_by after_identifier k ≡ none
identifier_refuses identifier = refl
identifier_refuses syntax = refl
identifier_refuses (whitespace w) = refl

-- after a turn where the token under way goes on, or the first begins
module _ {s text : List ℕ} {ts ts' : Tokens} {state q refused mid at n mid' at' : ℕ} where
  seen_on : {q₀ next : Under} {o : Option Kind} {b : Bool} → Comes s o b q₀ 0 next → Reached s text (plain_of state) mid at ts q₀ → Reached s text n mid' at' ts' next →
      goes_by (side_named state) ≡ 0 → Seen s text (ts ++ under_way_of q₀) state q refused → Seen s text ((ts ++ []) ++ under_way_of next) (state_for n) q refused
  seen_on (first {k = k} {u = u} e) h h' g i =
      let z : view_by state q ≡ other = ap (λ (m : ℕ). view_by m q) ((stated state).nothing h.stands.0) in
      let p = tokens_width (ts ++ []) in
      seen_next s text (ts ++ []) k u i (state_for n) q (medial_first (M s) u) refl (ap (λ v. refused_by v k) z ∙ other_refuses k)
      (ap (λ (m : ℕ). view_by (state_for m) q) h'.stands.0 ∙ plain_side k q ∙ sym (ap (λ v. next_view v p k (medial_first (M s) u)) z ∙ other_next p k (medial_first (M s) u)))
  seen_on (grown {k = k} {u = u} {v = v} f) h h' g i =
      let w = plain_next (view_of (M s) ts) (tokens_width ts) k (medial_first (M s) u) state q f g (i.view ∙ view_snoc (M s) ts (tok k u)) in
      let e : view_by (state_for n) q ≡ view_by state q = ap (λ (m : ℕ). view_by (state_for m) q) h'.stands.0 ∙ plain_side k q ∙ sym w in
      let x = seen_grown s text ts k u v f i in
      subst (λ z. Seen s text (z ++ tok k v ∷ []) (state_for n) q refused) (sym (append-nil ts)) (record { view = e ∙ x.view; first = x.first })
  seen_on (passed {k = k} {u = u} {v = v} {d = d}) h h' g i =
      let f : k ≡ identifier = h.stands.3 in
      let x = seen_grown s text ts k u v (λ z. impossible (cc)) i in
      let w = sym (view_snoc (M s) ts (tok k v) ∙ ap (λ j. next_view (view_of (M s) ts) (tokens_width ts) j (medial_first (M s) v)) f) in
      let e : view_by (state_for n) q ≡ after_identifier = ap (λ (m : ℕ). view_by (state_for m) q) h'.stands.0 ∙ plain_side k q ∙ ap plain_view f in
      subst (λ z. Seen s text (z ++ tok k v ∷ []) (state_for n) q refused) (sym (append-nil ts)) (record { view = e ∙ w; first = x.first })

  -- .. or a mark goes on that may be refused
  seen_stays : {q₀ next : Under} {o : Option Kind} {b : Bool} → Comes s o b q₀ 0 next → Reached s text (plain_of state) mid at ts q₀ → Reached s text n mid' at' ts' next →
      goes_by (side_named state) ≡ 4 → Seen s text (ts ++ under_way_of q₀) state q refused → (plain_of state ≡ n) × Seen s text ((ts ++ []) ++ under_way_of next) state q refused
  seen_stays (first e) h h' g i = absurd (omega (arith, h.stands.0, (stated state).marked g))
  seen_stays (grown {k = k} {u = u} {v = v} f) h h' g i =
      (h.stands.0 ∙ sym h'.stands.0, subst (λ z. Seen s text (z ++ tok k v ∷ []) state q refused) (sym (append-nil ts)) (seen_grown s text ts k u v f i))
  seen_stays passed h h' g i = absurd (omega (arith, h.stands.0, (stated state).marked g))

-- .. or one of kind k begins where another is complete
record Begun (s : List ℕ) (k : Kind) (b : Bool) (next : Under) : Type 0 where
  units : List Character
  is : next ≡ under k units
  medial : medial_first (M s) units ≡ b

begun_of : {s : List ℕ} {q₀ next : Under} {o : Option Kind} {b : Bool} → Comes s o b q₀ 1 next → (k : Kind) → o ≡ some k → Begun s k b next
begun_of (begun {k = j} {u = u} e f) k g = let z : j ≡ k = cc in record { units = u; is = ap (λ i. under i u) z; medial = f }

-- while a medial waits, an identifier stands before it
waits_identifier : {s text : List ℕ} {n mid at : ℕ} {ts : Tokens} {q₀ : Under} → Reached s text n mid at ts q₀ → waiting ≤ n → view_of (M s) (ts ++ under_way_of q₀) ≡ after_identifier
waits_identifier {s} {n = n} {mid = mid} {at = at} {ts = ts} {q₀ = q₀} i h = go q₀ i.stands
  where
    go : (p : Under) → Stands s p n (tokens_width ts) mid at → view_of (M s) (ts ++ under_way_of p) ≡ after_identifier
    go idle e = absurd (omega (arith, e.0))
    go (under k u) e = absurd (omega (arith, e.0, kind_less k))
    go (held k u d) e = view_snoc (M s) ts (tok k u) ∙ ap (λ j. next_view (view_of (M s) ts) (tokens_width ts) j (medial_first (M s) u)) e.3

waits_before : {s text : List ℕ} {n mid at : ℕ} {ts : Tokens} {q₀ : Under} → Reached s text n mid at ts q₀ → waiting ≤ n → mid ≤ at
waits_before {s} {n = n} {mid = mid} {at = at} {ts = ts} {q₀ = q₀} i h = go q₀ i.stands
  where
    go : (p : Under) → Stands s p n (tokens_width ts) mid at → mid ≤ at
    go idle e = absurd (omega (arith, e.0))
    go (under k u) e = absurd (omega (arith, e.0, kind_less k))
    go (held k u d) e = omega (arith, e.2)

-- no token begins at a place: 6 if the text from there on has an ill-formed place, else 7
stop_by : (s : List ℕ) (p : ℕ) (f : Form) (ts : Tokens) (c : Character) (l : List Character) → tokens_width ts ≡ p →
    unless (form_refusal_by (shift p f)) (judged s ts (c ∷ l)) ≡ refused (stop_refusal p f)
stop_by s p (Ok u) ts c l w = rw w
stop_by s p (Err e) ts c l w = refl

stops_at : (s text : List ℕ) (p : ℕ) (ts us : Tokens) (c : Character) (l : List Character) → Place text p → p ≡ tokens_width ts + tokens_width us →
    preceded ts (tokens_left us (c ∷ l)) ≡ reading_of s text → Err (stop_refusal p (text_of (drop p text))) ≡ count_through s text
unfolding count_through read_through
stops_at s text p ts us c l m w e =
    rw (← m.form, ← e)
    (sym (ap (λ (o : Outcome Tokens). counted_by (outcome_map length o)) (stop_by s p (text_of (drop p text)) (ts ++ us) c l (tokens_append ts us ∙ sym w))))

no_kind : {s : List ℕ} {q₀ next : Under} {o : Option Kind} {b : Bool} → Comes s o b q₀ 1 next → o ≡ none → ⊥
no_kind (begun e f) g = impossible (cc)

-- the same with what calls gave for the numbers
pub counting_same : {s text : List ℕ} {state count start mid q refused at state' count' q' refused' : ℕ} → Counting s text state count start mid q refused at →
    state' ≡ state → count' ≡ count → q' ≡ q → refused' ≡ refused → Counting s text state' count' start mid q' refused' at
counting_same i e f g h = rw (e, f, g, h) i

module _ {s text : List ℕ} {state count start mid q refused at : ℕ} (i : Counting s text state count start mid q refused at) where
  pub counting_few : count ≤ length text
  counting_few = omega (arith, i.counted, complete_few i.reached)

  counting_by : {o : Option Kind} {b : Bool} {r n start' mid' at' : ℕ} (a : After s text i.tokens i.under_way o b r n start' mid' at') (state' q' refused' : ℕ) →
      plain_of state' ≡ n → state' < count_states → q' ≤ at' → Seen s text ((i.tokens ++ done_by r i.under_way) ++ under_way_of a.next) state' q' refused' →
      Counting s text state' (count + r) start' mid' q' refused' at'
  counting_by {r = r} {mid' = mid'} {at' = at'} a state' q' refused' e l p x =
      record {
        tokens = i.tokens ++ done_by r i.under_way;
        under_way = a.next;
        reached = subst (λ (n : ℕ). Reached s text n mid' at' (i.tokens ++ done_by r i.under_way) a.next) (sym e) a.reached;
        less = l;
        counted = omega (arith, length-append i.tokens (done_by r i.under_way), a.size, i.counted);
        began = a.began;
        place = p;
        seen = x;
      }

  -- a token of kind k begins
  module _ {o : Option Kind} {b : Bool} {n start' mid' at' : ℕ} (a : After s text i.tokens i.under_way o b 1 n start' mid' at') (k : Kind) (e : o ≡ some k) where
    x : Begun s k b a.next
    x = begun_of a.comes k e

    number : n ≡ kind_number k
    number = go a.next x.is a.reached.stands
      where
        go : (p : Under) → p ≡ under k x.units → Stands s p n (tokens_width (i.tokens ++ under_way_of i.under_way)) mid' at' → n ≡ kind_number k
        go p f h = let z : Stands s (under k x.units) n (tokens_width (i.tokens ++ under_way_of i.under_way)) mid' at' = rw f at h in z.0

    began_seen : (state' q' : ℕ) → refused_by (view_by state q) k ≡ none → view_by state' q' ≡ next_view (view_by state q) (tokens_width (i.tokens ++ under_way_of i.under_way)) k b →
        Seen s text ((i.tokens ++ under_way_of i.under_way) ++ under_way_of a.next) state' q' refused
    began_seen state' q' f g =
        subst (λ p. Seen s text ((i.tokens ++ under_way_of i.under_way) ++ under_way_of p) state' q' refused) (sym x.is)
        (seen_next s text (i.tokens ++ under_way_of i.under_way) k x.units i.seen state' q' b x.medial f g)

    joined_seen : refused_by (view_by state q) k ≡ some q → q < length text → k ≡ identifier →
        Seen s text ((i.tokens ++ under_way_of i.under_way) ++ under_way_of a.next) 1 q (refused_beside 7 refused q (length text))
    joined_seen f h g =
        subst (λ p. Seen s text ((i.tokens ++ under_way_of i.under_way) ++ under_way_of p) 1 q (refused_beside 7 refused q (length text))) (sym x.is)
        (seen_joined s text (i.tokens ++ under_way_of i.under_way) k x.units i.seen f h g)

  -- the number of a token under way is that of its kind
  after_kind : {o : Option Kind} {b : Bool} {r n start' mid' at' : ℕ} → After s text i.tokens i.under_way o b r n start' mid' at' → (k : Kind) × (n ≡ kind_number k)
  after_kind {r = r} {n = n} {mid' = mid'} {at' = at'} a = go a.next a.going a.reached.stands
    where
      go : (p : Under) → Going p → Stands s p n (tokens_width (i.tokens ++ done_by r i.under_way)) mid' at' → (k : Kind) × (n ≡ kind_number k)
      go (under k u) g h = (k, h.0)
      go idle g h = absurd g
      go (held k u d) g h = absurd g

  -- what waits is settled: the medial is under way as a token of its own
  module _ (h : Settles (L s) i.under_way (characters_at text at)) (w : count_waiting ≤ state) where
    pub counting_settles : (state ≡ count_waiting → ⊥) → Counting s text (state - count_waiting) (count + 1) mid mid mid refused at
    counting_settles n =
        let (p, d) = (stated state).waits w in
        let (j, e, a) = after_settling i.reached h (omega arith) (λ z. n (omega arith)) in
        let m : state - count_waiting ≡ kind_number j = omega arith in
        let v : view_by state q ≡ after_identifier = ap (λ d. placed d q) d in
        counting_by a (state - count_waiting) mid refused (ap plain_of m ∙ settled_state j ∙ omega (arith, e)) (omega (arith, kind_less j)) (waits_before i.reached (omega arith))
        (began_seen a j refl (state - count_waiting) mid (ap (λ v. refused_by v j) v ∙ identifier_refuses j)
        (ap (λ (n : ℕ). view_by n mid) m ∙ settled_view j mid ∙ (λ l. next_view (sym v l) (a.began l) j true)))

    -- or it begins no token
    pub counts_left : state ≡ count_waiting → Err (stop_refusal mid (text_of (drop mid text))) ≡ count_through s text
    counts_left n =
        let p = ((stated state).waits w).0 in
        let x = left s (plain_of state) (tokens_width i.tokens) mid at i.under_way i.reached.stands (omega arith) (omega arith) in
        stops_at s text mid i.tokens (under_way_of i.under_way) x.medial (characters_at text at) i.reached.medial x.place (left_settled i.reached h x)

  module _ {len traits turn : ℕ} (k : CountLook s text state at len traits turn) where
    look : Look s text (plain_of state) at len traits (turn_of (plain_of state) traits)
    look = record { accepted = k.accepted; here = k.here; known = refl }

    tells : Told (side_named state) q (leb 8 traits) (turn_of (plain_of state) traits) (kind_of trait_meaning traits) turn
    unfolding count_turn_of
    tells = subst (Told (side_named state) q (leb 8 traits) (turn_of (plain_of state) traits) (kind_of trait_meaning traits)) (sym k.known) (told (side_named state) q (leb 8 traits) (turn_of (plain_of state) traits) (kind_of trait_meaning traits))

    -- after a turn with which no token is complete, or one
    moved : (r : ℕ) → turn_of (plain_of state) traits ≡ r → r ≤ 1 →
        After s text i.tokens i.under_way (kind_of trait_meaning traits) (leb 8 traits) r (after_of traits) (start_by r start at) mid (at + len)
    moved r e h =
        subst (λ (p : ℕ). After s text i.tokens i.under_way (kind_of trait_meaning traits) (leb 8 traits) r (after_of traits) (start_by r p at) mid (at + len)) (sym i.began)
        (after_turn i.reached look r e h)

    -- a token goes on or begins, and no mark is beside it
    abbrev Turn : ℕ → Type 0
    Turn r = Counting s text (count_after_of traits) (count + r) (start_by r start at) mid q refused (at + len)

    turn_by : {o : Option Kind} {b : Bool} {r : ℕ} (a : After s text i.tokens i.under_way o b r (after_of traits) (start_by r start at) mid (at + len)) →
        Seen s text ((i.tokens ++ done_by r i.under_way) ++ under_way_of a.next) (state_for (after_of traits)) q refused → Turn r
    unfolding count_after_of
    turn_by a x =
        let (j, e) = after_kind a in
        counting_by a (state_for (after_of traits)) q refused (ap (λ (n : ℕ). plain_of (state_for n)) e ∙ plain_state j ∙ sym e)
        (omega (arith, ap state_for e, state_less j)) (omega (arith, i.place)) x

    pub counting_turn : turn ≤ 1 → (n : ℕ) → n ≡ count_after_of traits → Counting s text n (count + turn) (start_by turn start at) mid q refused (at + len)
    counting_turn h n e = subst (λ (n : ℕ). Counting s text n (count + turn) (start_by turn start at) mid q refused (at + len)) (sym e) (go refl refl tells h)
      where
        go : {r₀ r : ℕ} {o : Option Kind} → turn_of (plain_of state) traits ≡ r₀ → kind_of trait_meaning traits ≡ o → Told (side_named state) q (leb 8 traits) r₀ o r → r ≤ 1 → Turn r
        go e f (goes g) l = let a = moved 0 e (omega arith) in turn_by a (seen_on a.comes i.reached a.reached g i.seen)
        go e f (begins {k = j} (apart v g)) l =
            let a = moved 1 e (omega arith) in
            let z = number a j f in
            turn_by a (began_seen a j f (state_for (after_of traits)) q g (ap (λ (n : ℕ). view_by (state_for n) q) z ∙ plain_side j q ∙ sym (v (tokens_width (i.tokens ++ under_way_of i.under_way)))))
        go e f (stays g) l = absurd (omega arith)
        go e f (begins (marks z w)) l = absurd (omega arith)
        go e f (begins (links z w v)) l = absurd (omega arith)
        go e f (begins (joins z w)) l = absurd (omega arith)
        go e f (begins (waits z w v)) l = absurd (omega arith)
        go e f begins_none l = absurd (omega arith)
        go e f waits l = absurd (omega arith)
        go e f settles l = absurd (omega arith)
        go e f (stops n) l = absurd (omega arith)

    -- a medial waits
    pub counting_waits : turn ≡ 2 → (n : ℕ) → n ≡ count_waiting_of traits → Counting s text n count start at q refused (at + len)
    unfolding count_waiting_of waiting_of
    counting_waits h n e =
        let g = told_same tells (omega arith) (omega arith) ∙ h in
        let (p, kept, r) = after_waiting i.reached look g in
        let w = (stated n).waits (omega arith) in
        let z : plain_of n ≡ waiting + number_by (kind_of trait_meaning traits) = omega (arith, w.0, e) in
        let v : view_by n q ≡ view_of (M s) (i.tokens ++ under_way_of p) = ap (λ d. placed d q) w.1 ∙ sym (waits_identifier r (omega arith)) in
        record {
          tokens = i.tokens;
          under_way = p;
          reached = subst (λ (m : ℕ). Reached s text m at (at + len) i.tokens p) (sym z) r;
          less = omega (arith, e, number_less (kind_of trait_meaning traits));
          counted = i.counted;
          began = i.began;
          place = omega (arith, i.place);
          seen = record { view = v; first = subst (λ ts. RefusedAt (length text) (refused_from (M s) other 0 (i.tokens ++ ts)) refused) (sym kept) i.seen.first };
        }

    -- the one that waits is settled
    pub waits_here : turn ≡ 3 → (count_waiting ≤ state) × Settles (L s) i.under_way (characters_at text at)
    waits_here h =
        let x = settles_here i.reached look (told_same tells (omega arith) (omega arith) ∙ h) in
        ((stated state).plain x.0, x.1)

    -- where a token is complete with the turn, none waits
    not-waiting : turn_of (plain_of state) traits ≡ 1 → state < count_waiting
    not-waiting e = go (dec_lt state count_waiting)
      where
        go : Dec (state < count_waiting) → state < count_waiting
        go (yes h) = h
        go (no h) = absurd (waits_turn (plain_of state) traits (omega (arith, ((stated state).waits (omega arith)).0)) e)

    -- a turn beside a mark
    abbrev BesideTurn : ℕ → Type 0
    BesideTurn r = Counting s text (state_beside r state) (count + count_beside r) (start_by (count_beside r) start at) mid (mark_beside r q at) (refused_beside r refused (mark_beside r q at) (length text)) (at + len)

    module _ (j : Kind) (e : turn_of (plain_of state) traits ≡ 1) (f : kind_of trait_meaning traits ≡ some j) where
      a : After s text i.tokens i.under_way (kind_of trait_meaning traits) (leb 8 traits) 1 (after_of traits) at mid (at + len)
      a = moved 1 e (omega arith)

      begins_mark : (n : ℕ) → j ≡ whitespace mark → plain_of n ≡ 5 → n < count_states → view_by n at ≡ marked_view (view_by state q) at →
          Counting s text n (count + 1) at mid at refused (at + len)
      begins_mark n z p l v =
          counting_by a n at refused (p ∙ sym (number a j f ∙ ap kind_number z)) l (omega arith)
          (began_seen a j f n at (ap (refused_by (view_by state q)) z)
          (v ∙ ap (marked_view (view_by state q)) a.began ∙ sym (ap (λ k. next_view (view_by state q) (tokens_width (i.tokens ++ under_way_of i.under_way)) k (leb 8 traits)) z)))

    go_beside : {r₀ r : ℕ} {o : Option Kind} → turn_of (plain_of state) traits ≡ r₀ → kind_of trait_meaning traits ≡ o → Told (side_named state) q (leb 8 traits) r₀ o r → 4 ≤ r → r ≤ 7 →
        BesideTurn r
    go_beside e f (stays g) l h =
        let a = moved 0 e (omega arith) in
        let (p, x) = seen_stays a.comes i.reached a.reached g i.seen in
        counting_by a state q refused p i.less (omega (arith, i.place)) x
    go_beside e f (begins {k = j} (marks z (inl d))) l h =
        let n : state ≡ 1 = (stated state).identifier (not-waiting e) d in
        rw (eq-eqb state 1 n) (begins_mark j e f 5 z refl (omega arith) (sym (ap (λ d. marked_view (placed d q) at) d)))
    go_beside e f (begins {k = j} (marks z (inr d))) l h =
        let n : state ≡ 2 = (stated state).medial d in
        rw (ne_eqb state 1 (λ y. absurd (omega arith))) (begins_mark j e f 8 z refl (omega arith) (sym (ap (λ d. marked_view (placed d q) at) d)))
    go_beside e f (begins {k = j} (links z b d)) l h =
        counting_by (a j e f) 9 q refused (sym (number (a j e f) j f ∙ ap kind_number z)) (omega arith) (omega (arith, i.place))
        (began_seen (a j e f) j f 9 q (ap (refused_by (view_by state q)) z) (λ m. next_view (placed (sym d m) q) (tokens_width (i.tokens ++ under_way_of i.under_way)) (sym z m) (sym b m)))
    go_beside e f (begins {k = j} (joins z g)) l h =
        counting_by (a j e f) 1 q _ (sym (number (a j e f) j f ∙ ap kind_number z)) (omega arith) (omega (arith, i.place))
        (joined_seen (a j e f) j f (ap (refused_by (view_by state q)) z ∙ g) (omega (arith, i.place, k.here.within, k.here.some_bytes)) z)
    go_beside e f (goes g) l h = absurd (omega arith)
    go_beside e f (begins (apart v g)) l h = absurd (omega arith)
    go_beside e f (begins (waits z w v)) l h = absurd (omega arith)
    go_beside e f begins_none l h = absurd (omega arith)
    go_beside e f waits l h = absurd (omega arith)
    go_beside e f settles l h = absurd (omega arith)
    go_beside e f (stops n) l h = absurd (omega arith)

    pub counting_beside : 4 ≤ turn → turn ≤ 7 → BesideTurn turn
    counting_beside l h = go_beside refl refl tells l h

    -- no token begins
    go_stops : {r₀ r : ℕ} {o : Option Kind} → turn_of (plain_of state) traits ≡ r₀ → kind_of trait_meaning traits ≡ o → Told (side_named state) q (leb 8 traits) r₀ o r → 8 ≤ r →
        4 ≤ turn_of (plain_of state) traits
    go_stops e f (stops n) h = omega arith
    go_stops e f begins_none h = absurd (no_kind (moved 1 e (omega arith)).comes f)
    go_stops e f (begins (waits d z b)) h =
        let n = (stated state).identifier (not-waiting e) d in
        absurd (identifier_turn traits (ap (λ (m : ℕ). turn_of (plain_of m) traits) (sym n) ∙ e) b)
    go_stops e f (goes g) h = absurd (omega arith)
    go_stops e f (stays g) h = absurd (omega arith)
    go_stops e f (begins (apart v g)) h = absurd (omega arith)
    go_stops e f (begins (marks z w)) h = absurd (omega arith)
    go_stops e f (begins (links z w v)) h = absurd (omega arith)
    go_stops e f (begins (joins z w)) h = absurd (omega arith)
    go_stops e f waits h = absurd (omega arith)
    go_stops e f settles h = absurd (omega arith)

    pub counts_stop : 8 ≤ turn → Err (stop_refusal at (text_of (drop at text))) ≡ count_through s text
    counts_stop h =
        let x = left_here i.reached look (go_stops refl refl tells h) in
        stops_at s text at i.tokens (under_way_of i.under_way) _ _ i.reached.place x.0 x.1

  pub counts_ill : IllHead (drop at text) → Err (stop_refusal at (text_of (drop at text))) ≡ count_through s text
  unfolding count_through read_through
  counts_ill e = rw (← i.reached.place.form, text_ill (drop at text) e)

  -- the text ends: what is pending is complete
  module _ (h : length text ≤ at) where
    pub settles_end : Settles (L s) i.under_way (characters_at text at)
    settles_end = settles_none i.reached (at_end text at h)

    module _ (n : state ≡ count_waiting → ⊥) where
      -- all is read, and no other mark is refused
      record Ended (p : Under) : Type 0 where
        none_left : (finish (L s) p).left ≡ []
        pending : length (finish (L s) p).tokens ≡ count_pending_of state
        same : refused_from (M s) other 0 (i.tokens ++ (finish (L s) p).tokens) ≡ refused_from (M s) other 0 (i.tokens ++ under_way_of p)

      ended : (p : Under) → Reached s text (plain_of state) mid at i.tokens p → Ended p
      unfolding finish settle
      ended idle r = record { none_left = refl; pending = rw (eq-eqb state 0 ((stated state).nothing r.stands.0)); same = refl }
      ended (under k u) r = record { none_left = refl; pending = go (dec_lt state count_waiting); same = refl }
        where
          go : Dec (state < count_waiting) → 1 ≡ count_pending_of state
          go (yes l) = rw (ne_eqb state 0 (λ z. absurd (omega (arith, ap plain_of z, r.stands.0, kind_less k))), lt-ltb state count_waiting l)
          go (no l) = absurd (omega (arith, ((stated state).waits (omega arith)).0, r.stands.0, kind_less k))
      ended (held k u d) r = go (kind_of (M s) d) refl
        where
          waits_now : count_waiting ≤ state
          waits_now = (stated state).plain (omega (arith, r.stands.0))

          two : 2 ≡ count_pending_of state
          two = rw (ne_eqb state 0 (λ z. absurd (omega (arith, waits_now))), le-ltb state count_waiting waits_now)

          go : (o : Option Kind) → kind_of (M s) d ≡ o → Ended (held k u d)
          go none g = absurd (n (omega (arith, ((stated state).waits waits_now).0, r.stands.0 ∙ ap (λ o. waiting + number_by o) g)))
          go (some j) g =
              let ts = i.tokens ++ tok k u ∷ [] in
              let v = waits_identifier r (omega (arith, r.stands.0)) in
              let e = refused_append (M s) other 0 ts (tok j (d ∷ []) ∷ [])
              ∙ ap (λ w. either (refused_from (M s) other 0 ts) (either (refused_by w j) none)) v
              ∙ ap (λ o. either (refused_from (M s) other 0 ts) (either o none)) (identifier_refuses j) ∙ either_none (refused_from (M s) other 0 ts) in
              record { none_left = rw g; pending = rw g two; same = rw g (ap (refused_from (M s) other 0) (sym (append_assoc i.tokens (tok k u ∷ []) (tok j (d ∷ []) ∷ []))) ∙ e) }

      all_read : Ended i.under_way
      all_read = ended i.under_way i.reached

      all_tokens : tokens_of s text ≡ i.tokens ++ (finish (L s) i.under_way).tokens
      all_tokens = sym (ap (λ w. w.tokens) (read_end i.reached (at_end text at h)))

      all_count : count + count_pending_of state ≡ length (tokens_of s text)
      all_count = omega (arith, ap length all_tokens, length-append i.tokens (finish (L s) i.under_way).tokens, all_read.pending, i.counted)

      nothing_left : (reading_of s text).left ≡ []
      nothing_left = sym (ap (λ w. w.left) (read_end i.reached (at_end text at h))) ∙ all_read.none_left

      -- the second reading refuses the same mark
      refused_second : RefusedAt (length text) (place_of (first_refused (M s) [] (tokens_of s text))) refused
      unfolding reading_of
      refused_second =
          let d = tokens_divide (M s) (decode text).characters in
          let ts = tokens_of s text in
          let c : (decode text).characters ≡ units_of ts = division_covers (Token (M s)) d ∙ ap (λ l. units_of ts ++ l) nothing_left ∙ append-nil (units_of ts) in
          let b = beside_second (M s) ts (subst (λ cs. Division (Token (M s)) cs ts (reading_of s text).left) c d) in
          subst (λ o. RefusedAt (length text) o refused) (sym (ap (refused_from (M s) other 0) all_tokens ∙ all_read.same) ∙ b) i.seen.first

      judged_end : (o : Option Refusal) → mark_refusal s (tokens_of s text) ≡ o → count_through s text ≡ counted_by (outcome_map length (unless o (given (tokens_of s text))))
      unfolding count_through read_through
      judged_end o e = rw (← i.reached.place.form, end_here text at h, nothing_left, e)

      pub counts_marked : refused < length text → Err (refusal.Mark refused) ≡ count_through s text
      unfolding mark_refusal
      counts_marked l = go (first_refused (M s) [] (tokens_of s text)) refl refused_second
        where
          go : (o : Option Tokens) → first_refused (M s) [] (tokens_of s text) ≡ o → RefusedAt (length text) (place_of o) refused → Err (refusal.Mark refused) ≡ count_through s text
          go none e f = absurd (omega (arith, f))
          go (some ts) e f = sym (judged_end (some (refusal.Mark (tokens_width ts))) (ap mark_refusal_by e) ∙ ap (λ (p : ℕ). Err (refusal.Mark p)) (sym f.0))

      pub counts_end : length text ≤ refused → Ok (count + count_pending_of state) ≡ count_through s text
      unfolding mark_refusal
      counts_end l = go (first_refused (M s) [] (tokens_of s text)) refl refused_second
        where
          go : (o : Option Tokens) → first_refused (M s) [] (tokens_of s text) ≡ o → RefusedAt (length text) (place_of o) refused → Ok (count + count_pending_of state) ≡ count_through s text
          go none e f = ap Ok all_count ∙ sym (judged_end none (ap mark_refusal_by e))
          go (some ts) e f = absurd (omega (arith, f.0, f.1))

-- no more than two tokens are pending
pub pending_two : (n : ℕ) → count_pending_of n ≤ 2
pending_two n = go (eqb n 0) (ltb n count_waiting)
  where
    go : (a b : Bool) → cond {A = ℕ} a 0 (cond b 1 2) ≤ 2
    go true b = omega arith
    go false true = omega arith
    go false false = omega arith

-- the answer at the text's end is the text's
pub finishes : (s text : List ℕ) (run : Run) → CountingAs s text run → length text ≤ run.at → finished_by text run ≡ count_through s text
finishes s text run i h = go (dec_lt run.refused (length text)) (ℕ_discrete run.state count_waiting)
  where
    go : Dec (run.refused < length text) → Dec (run.state ≡ count_waiting) → finished_by text run ≡ count_through s text
    go r (yes e) = rw (eq-eqb run.state count_waiting e) (counts_left i.counting (settles_end i.counting h) (omega arith) e)
    go (yes l) (no n) = rw (ne_eqb run.state count_waiting n, lt-ltb run.refused (length text) l) (counts_marked i.counting h n l)
    go (no l) (no n) = rw (ne_eqb run.state count_waiting n, le-ltb run.refused (length text) (omega arith)) (counts_end i.counting h n (omega arith))
