-- The first token by turns: the one under way, as soon as it is complete. Assumes nothing.
use Prim.Native.Nat.{ℕ, zero, suc, ◌+◌, ◌≤◌, ◌<◌}
use mathlib.Core.Path.{◌≡◌, refl, sym, ap, subst, ◌∙◌}
use mathlib.Core.List.{List, [], ◌∷◌, ◌++◌}
use mathlib.Core.Option.{none}
use native.Mathlib.Omega.{arith}
use lib.ListN.{length, drop, drop_of_length-le}
use Rattle.lists.proofs.BoolLaws.{impossible}
use Rattle.utf8.specs.declared.Step.{Step}
use Rattle.utf8.specs.declared.Step.TheVariants as utf8_step
use Rattle.utf8.specs.Head.{step_of, IllHead}
use Rattle.utf8.specs.Text.{Character, decode, width_of, characters_at}
use Rattle.utf8.proofs.SequenceLaws.{step_empty, ill_at}
use Rattle.utf8.proofs.TextLaws.{decode_ill, decode_end}
use Rattle.grammar.specs.Scan.{Tok, walk}
use Rattle.grammar.specs.Step.{idle, under, held, tok, under_way_of, finish}
use Rattle.grammar.specs.Grammar.{Kind}
use Rattle.grammar.specs.Kinds.{kind_number}
use Rattle.grammar.specs.Reading.{rules_of, reading_of, tokens_of}
use Rattle.grammar.proofs.ScanLaws.{walk_nil}
use Rattle.grammar.proofs.StepLaws.{read_from, Settles, settles_first, finish_begins}
use Rattle.turns.specs.declared.First.TheVariants.{Nothing, IllFormed, Token}
use Rattle.turns.specs.Turns.{Phase, phase_named, waiting, states, waiting_of, after_of}
use Rattle.turns.specs.First.{first_in, first_by, first_of, pending_by, pending_first}
use Rattle.turns.proofs.TurnLaws.{Tokens, Under, L, Stands, kind_less, phase_of, stands_less}
use Rattle.turns.proofs.ReachLaws.{Look, NoCharacter, Reached, reached_begins, tokens_come, read_end, after_turn, after_waiting, settles_here, left_here}

pub first_by_lem : (n mid at : ℕ) (p : Phase) → phase_named n ≡ p → pending_by p mid at ≡ pending_first n mid at
unfolding pending_first
first_by_lem n mid at p e = ap (λ p. pending_by p mid at) (sym e)

-- no token is complete before the place `at`
pub record Searching (s text : List ℕ) (state mid at : ℕ) : Type 0 where
  pub under_way : Under
  pub reached : Reached s text state mid at [] under_way

pub searching_begins : (s text : List ℕ) → Searching s text 0 0 0
searching_begins s text = record { under_way = idle; reached = reached_begins s text }

module _ (s text : List ℕ) where
  -- what stands at the front
  no_tokens : (decode text).characters ≡ [] → tokens_of s text ≡ []
  unfolding reading_of
  no_tokens e = ap (λ (cs : List Character). (walk (rules_of s) none cs).tokens) e ∙ ap (λ w. w.tokens) (walk_nil (rules_of s) none)

  by_front : (t : Tok Character Kind) (rest : Tokens) → tokens_of s text ≡ t ∷ rest → first_in (t ∷ rest) ≡ first_of s text
  unfolding first_of
  by_front t rest e = ap first_in (sym e) ∙ go (step_of text) refl
    where
      go : (x : Step) → step_of text ≡ x → first_in (tokens_of s text) ≡ first_by (tokens_of s text) x
      go (utf8_step.Scalar x n) f = refl
      go (utf8_step.IllFormed n) f = let z = no_tokens (ap (λ d. d.characters) (decode_ill text (ill_at text n f))) in impossible (cc)
      go utf8_step.End f = let z = no_tokens (ap (λ d. d.characters) (decode_end text f)) in impossible (cc)

  module _ (state mid at : ℕ) where
    -- past the front a token is under way
    some_under : (q : Under) → Stands s q state 0 mid at → (at ≡ 0 → ⊥) → 0 < length (under_way_of q)
    some_under idle i z = absurd (z i.1)
    some_under (under k u) i z = omega arith
    some_under (held k u d) i z = omega arith

    -- the token under way is the first
    complete : (q : Under) → Stands s q state 0 mid at → (rest : Tokens) → tokens_of s text ≡ under_way_of q ++ rest → 0 < length (under_way_of q) →
        pending_first state mid at ≡ first_of s text
    complete idle i rest e h = absurd (omega arith)
    complete (under k u) i rest e h =
        let w : at ≡ width_of u = omega (arith, i.1) in
        sym (first_by_lem state mid at _ (phase_of s state 0 mid at (under k u) i)) ∙ ap (Token (kind_number k)) w ∙ by_front (tok k u) rest e
    complete (held k u d) i rest e h =
        let w : mid ≡ width_of u = omega (arith, i.1) in
        sym (first_by_lem state mid at _ (phase_of s state 0 mid at (held k u d) i)) ∙ (λ j. Token (kind_number (sym i.3 j)) (w j)) ∙ by_front (tok k u) rest e

module _ {s text : List ℕ} {state mid at : ℕ} (i : Searching s text state mid at) where
  pub searching_less : state < states
  searching_less = stands_less s state 0 mid at i.under_way i.reached.stands

  pub first_ill : IllHead (drop at text) → at ≡ 0 → IllFormed ≡ first_of s text
  unfolding first_of
  first_ill e z = let f : IllHead text = rw z at e in rw f

  pub first_nothing : length text ≤ at → at ≡ 0 → Nothing ≡ first_of s text
  unfolding first_of
  first_nothing h z = let e : step_of text ≡ utf8_step.End = ap step_of (drop_of_length-le text {i = 0} (omega arith)) ∙ step_empty in rw e

  -- nothing follows
  pub first_last : NoCharacter text at → (at ≡ 0 → ⊥) → pending_first state mid at ≡ first_of s text
  first_last e z = go i.under_way i.reached.stands (sym (ap (λ w. w.tokens) (read_end i.reached e)))
    where
      go : (q : Under) → Stands s q state 0 mid at → tokens_of s text ≡ (finish (L s) q).tokens → pending_first state mid at ≡ first_of s text
      go q h f = let x = finish_begins (L s) q in complete s text state mid at q h x.0 (f ∙ x.1) (some_under s text state mid at q h z)

  -- a character stands here
  module _ {len traits turn : ℕ} (k : Look s text state at len traits turn) where
    pub searching_on : turn ≡ 0 → (n : ℕ) → n ≡ after_of traits → Searching s text n mid (at + len)
    searching_on h n e =
        let a = after_turn i.reached k 0 h (omega arith) in
        subst (λ (n : ℕ). Searching s text n mid (at + len)) (sym e) (record { under_way = a.next; reached = a.reached })

    pub searching_waits : turn ≡ 2 → (n : ℕ) → n ≡ waiting_of traits → Searching s text n at (at + len)
    searching_waits h n e =
        let a = after_waiting i.reached k h in
        subst (λ (n : ℕ). Searching s text n at (at + len)) (sym e) (record { under_way = a.0; reached = a.2 })

    none_begins : Stands s idle state 0 mid at → tokens_of s text ≡ [] → pending_first state mid at ≡ first_of s text
    unfolding first_of
    none_begins h f =
        let z : at ≡ 0 = h.1 in
        let g : step_of text ≡ utf8_step.Scalar k.here.code len = rw z at k.here.stands in
        sym (first_by_lem state mid at _ (phase_of s state 0 mid at idle h)) ∙ sym (ap (first_by (tokens_of s text)) g ∙ ap first_in f)

    -- the token under way is complete, or none begins
    first_begins : turn ≡ 1 → pending_first state mid at ≡ first_of s text
    first_begins h =
        let a = after_turn i.reached k 1 h (omega arith) in
        complete s text state mid at i.under_way i.reached.stands _ (tokens_come a.reached) (omega (arith, a.size))

    first_settles : turn ≡ 3 → pending_first state mid at ≡ first_of s text
    first_settles h = let x = settles_here i.reached k h in go i.under_way i.reached.stands x.0 x.1 (tokens_come i.reached)
      where
        go : (q : Under) → Stands s q state 0 mid at → waiting ≤ state → Settles (L s) q (characters_at text at) →
            tokens_of s text ≡ (read_from (L s) q (characters_at text at)).tokens →
            pending_first state mid at ≡ first_of s text
        go idle h w f g = absurd (omega (arith, h.0))
        go (under k u) h w f g = absurd (omega (arith, h.0, kind_less k))
        go (held k u d) h w f g = complete s text state mid at (held k u d) h _ (g ∙ ap (λ r. r.tokens) (settles_first (L s) k u d (characters_at text at) f)) (omega arith)

    first_stops : 4 ≤ turn → pending_first state mid at ≡ first_of s text
    first_stops h = go i.under_way i.reached.stands (sym (ap (λ w. w.tokens) (left_here i.reached k h).1))
      where
        go : (q : Under) → Stands s q state 0 mid at → tokens_of s text ≡ under_way_of q → pending_first state mid at ≡ first_of s text
        go idle h f = none_begins h f
        go (under k u) h f = complete s text state mid at (under k u) h [] f (omega arith)
        go (held k u d) h f = complete s text state mid at (held k u d) h [] f (omega arith)

    pub first_ends : (turn ≡ 0 → ⊥) → (turn ≡ 2 → ⊥) → pending_first state mid at ≡ first_of s text
    first_ends n m = go turn refl
      where
        go : (r : ℕ) → turn ≡ r → pending_first state mid at ≡ first_of s text
        go zero e = absurd (n e)
        go (suc zero) e = first_begins e
        go (suc (suc zero)) e = absurd (m e)
        go (suc (suc (suc zero))) e = first_settles e
        go (suc (suc (suc (suc r)))) e = first_stops (omega arith)
