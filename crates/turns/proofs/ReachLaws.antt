-- How far a reader has come that goes through a text by turns: the tokens that are complete, and what is under way. Each turn keeps it.
-- Assumes nothing.
use Prim.Native.Nat.{ℕ, zero, suc, ◌+◌, ◌-◌, ◌≤◌, ◌<◌}
use mathlib.Core.Path.{◌≡◌, refl, sym, ap, subst, ◌∙◌}
use mathlib.Core.List.{List, [], ◌∷◌, ◌++◌}
use mathlib.Core.Bool.{Bool, true}
use mathlib.Core.Option.{Option, none, some}
use native.Mathlib.Omega.{arith}
use lib.ListN.{length, drop, length-append}
use lib.Dec.{leb}
use Rattle.utf8.specs.declared.Step.TheVariants as utf8_step
use Rattle.utf8.specs.Head.{step_of, IllHead}
use Rattle.utf8.specs.Text.{Character, characters_at, text_of, shift}
use Rattle.utf8.proofs.TextLaws.{characters_step, characters_ill, characters_end, shift_zero, turn}
use Rattle.image.specs.Check.{refusal_of}
use Rattle.character.specs.Traits.{token_traits}
use Rattle.character.specs.Read.{ReadTokenAs}
use Rattle.character.proofs.TraitLaws.{token_small}
use Rattle.character.specs.declared.Character.{Character as Read}
use Rattle.grammar.specs.Step.{idle, under, held, moves, under_way_of, preceded, tokens_left, step, settle, finish}
use Rattle.grammar.specs.Grammar.{Kind}
use Rattle.grammar.specs.Kinds.{kind_number, kind_of}
use Rattle.grammar.specs.Record.{tokens_width}
use Rattle.grammar.specs.Reading.{reading_of, tokens_of}
use Rattle.grammar.proofs.RecordLaws.{tokens_append}
use Rattle.grammar.proofs.FewLaws.{few_tokens}
use Rattle.grammar.proofs.StepLaws.{preceded_append, read_from, meant, read_step, Settles, read_settles, read_finish}
use Rattle.turns.specs.Turns.{waiting, trait_meaning, waiting_of, turn_of, after_of, start_by}
use Rattle.turns.proofs.TurnLaws.{Tokens, Under, L, Stands, done_by, Going, Comes, Moved, Turned, turned, settled, Left}

-- a place of the text up to which it is well-formed
pub record Place (text : List ℕ) (p : ℕ) : Type 0 where
  pub within : p ≤ length text
  pub form : shift p (text_of (drop p text)) ≡ text_of text

-- a character of `len` bytes with these traits stands at a place
pub record Here (s text : List ℕ) (at len traits : ℕ) : Type 0 where
  pub code : ℕ
  pub stands : step_of (drop at text) ≡ utf8_step.Scalar code len
  pub some_bytes : 0 < len
  pub within : at + len ≤ length text
  pub decoded : characters_at text at ≡ record { code = code; width = len } ∷ characters_at text (at + len)
  pub known : traits ≡ token_traits s code
  pub same : shift at (text_of (drop at text)) ≡ shift (at + len) (text_of (drop (at + len) text))

pub here : (s text : List ℕ) (at : ℕ) (r : Read) → at < length text → ReadTokenAs s text at r → 0 < r.len → Here s text at r.len r.traits
here s text at r h a p =
    let e = (a.some p).0 in
    let t = turn text at r.code r.len (omega arith) e in
    record {
      code = r.code;
      stands = e;
      some_bytes = p;
      within = t.within;
      decoded = characters_step text at r.code r.len e;
      known = (a.some p).1;
      same = t.same;
    }

pub here_small : {s text : List ℕ} {at len traits : ℕ} → refusal_of s ≡ none → Here s text at len traits → traits < 16
here_small {s} a t = omega (arith, t.known, token_small s t.code a)

-- a turn at a place: what it is of the character there, under an accepted image
pub record Look (s text : List ℕ) (state at len traits turn : ℕ) : Type 0 where
  pub accepted : refusal_of s ≡ none
  pub here : Here s text at len traits
  pub known : turn ≡ turn_of state traits

-- no character stands where the text is ill-formed, nor at its end
pub record NoCharacter (text : List ℕ) (at : ℕ) : Type 0 where
  pub none : characters_at text at ≡ []

pub at_ill : (text : List ℕ) (at : ℕ) → IllHead (drop at text) → NoCharacter text at
at_ill text at e = record { none = characters_ill text at e }

pub at_end : (text : List ℕ) (at : ℕ) → length text ≤ at → NoCharacter text at
at_end text at h = record { none = characters_end text at h }

-- the tokens ts are complete before what is under way at the place `at`, and q is what the code's numbers stand for
pub record Reached (s text : List ℕ) (state mid at : ℕ) (ts : Tokens) (q : Under) : Type 0 where
  pub place : Place text at
  pub medial : Place text mid
  pub stands : Stands s q state (tokens_width ts) mid at
  pub same : preceded ts (read_from (L s) q (characters_at text at)) ≡ reading_of s text

pub reached_begins : (s text : List ℕ) → Reached s text 0 0 0 [] idle
unfolding read_from reading_of
reached_begins s text =
    let p : Place text 0 = record { within = omega arith; form = shift_zero (text_of text) } in
    record { place = p; medial = p; stands = (refl, refl); same = refl }

-- after a turn that completes r tokens, none or the one under way, a token is under way since `start`
pub record After (s text : List ℕ) (ts : Tokens) (q : Under) (o : Option Kind) (b : Bool) (r state start mid at : ℕ) : Type 0 where
  pub next : Under
  pub reached : Reached s text state mid at (ts ++ done_by r q) next
  pub going : Going next
  pub comes : Comes s o b q r next
  pub size : length (done_by r q) ≡ r
  pub began : start ≡ tokens_width (ts ++ done_by r q)

module _ {s text : List ℕ} {state mid at : ℕ} {ts : Tokens} {q : Under} (i : Reached s text state mid at ts q) where
  -- the tokens that are complete and those still to come are the text's, which has no more than bytes
  pub tokens_come : tokens_of s text ≡ ts ++ (read_from (L s) q (characters_at text at)).tokens
  tokens_come = sym (ap (λ w. w.tokens) i.same)

  pub complete_few : length ts ≤ length text
  complete_few = omega (arith, ap length tokens_come, length-append ts (read_from (L s) q (characters_at text at)).tokens, few_tokens s text)

  -- after a move, the tokens us more are complete
  reached_by : (us : Tokens) (next : Under) (state' mid' at' : ℕ) → preceded ts (meant (L s) (moves us next) (characters_at text at')) ≡ reading_of s text →
      Stands s next state' (tokens_width ts + tokens_width us) mid' at' → Place text at' → Place text mid' → Reached s text state' mid' at' (ts ++ us) next
  reached_by us next state' mid' at' e h p m =
      record {
        place = p;
        medial = m;
        stands = subst (λ (n : ℕ). Stands s next state' n mid' at') (sym (tokens_append ts us)) h;
        same = sym (preceded_append ts us (read_from (L s) next (characters_at text at'))) ∙ e;
      }

  -- where no character stands, or one with which the identifier doesn't go on, what waits is settled
  module _ (h : Settles (L s) q (characters_at text at)) where
    pub read_settled : preceded ts (meant (L s) (settle (L s) q) (characters_at text at)) ≡ reading_of s text
    read_settled = ap (preceded ts) (sym (read_settles (L s) q (characters_at text at) h)) ∙ i.same

    pub after_settling : waiting ≤ state → (state ≡ waiting → ⊥) →
        (k : Kind) × (state ≡ waiting + kind_number k) × After s text ts q (some k) true 1 (state - waiting) mid mid at
    after_settling w n =
        let x = settled s state (tokens_width ts) mid at q i.stands w n in (
          x.kind,
          x.number,
          record {
            next = x.next;
            reached =
                reached_by (under_way_of q) x.next (state - waiting) mid at (ap (λ m. preceded ts (meant (L s) m (characters_at text at))) (sym x.same) ∙ read_settled) x.stands
                i.place i.medial;
            going = x.going;
            comes = x.comes;
            size = x.size;
            began = x.began ∙ sym (tokens_append ts (under_way_of q));
          },
        )

    -- or it begins no token
    pub left_settled : (x : Left s state (tokens_width ts) mid at q) →
        preceded ts (tokens_left (under_way_of q) (x.medial ∷ characters_at text at)) ≡ reading_of s text
    left_settled x = ap (λ m. preceded ts (meant (L s) m (characters_at text at))) (sym x.same) ∙ read_settled

  -- no character stands here
  pub settles_none : NoCharacter text at → Settles (L s) q (characters_at text at)
  settles_none e = go q
    where
      go : (q : Under) → Settles (L s) q (characters_at text at)
      go idle = tt
      go (under k u) = tt
      go (held k u d) = rw e.none

  pub read_end : NoCharacter text at → preceded ts (finish (L s) q) ≡ reading_of s text
  read_end e = ap (preceded ts) (sym (read_finish (L s) q)) ∙ ap (λ (cs : List Character). preceded ts (read_from (L s) q cs)) (sym e.none) ∙ i.same

  -- a character stands here
  module _ {len traits turn : ℕ} (k : Look s text state at len traits turn) where
    abbrev t : Here s text at len traits
    t = k.here

    abbrev pub unit : Character
    unit = record { code = t.code; width = len }

    abbrev next : List Character
    next = characters_at text (at + len)

    abbrev T : ℕ → Type 0
    T r = Turned s unit traits q state (tokens_width ts) mid at r

    turn_is : (r : ℕ) → turn ≡ r → T r
    turn_is r e = subst T (sym k.known ∙ e) (turned s k.accepted unit traits t.known state (tokens_width ts) mid at q i.stands)

    place_next : Place text (at + len)
    place_next = record { within = t.within; form = sym t.same ∙ i.place.form }

    read_on : preceded ts (meant (L s) (step (L s) q unit) next) ≡ reading_of s text
    read_on =
        ap (preceded ts) (sym (read_step (L s) q unit next)) ∙ ap (λ (cs : List Character). preceded ts (read_from (L s) q cs)) (sym t.decoded) ∙ i.same

    moves_on : (us : Tokens) (p : Under) → step (L s) q unit ≡ moves us p → preceded ts (meant (L s) (moves us p) next) ≡ reading_of s text
    moves_on us p e = ap (λ m. preceded ts (meant (L s) m next)) (sym e) ∙ read_on

    after_moving : (r : ℕ) → Moved s unit traits q state (tokens_width ts) mid at r →
        After s text ts q (kind_of trait_meaning traits) (leb 8 traits) r (after_of traits) (start_by r (tokens_width ts) at) mid (at + len)
    after_moving r x =
        record {
          next = x.next;
          reached = reached_by (done_by r q) x.next (after_of traits) mid (at + len) (moves_on (done_by r q) x.next x.same) x.stands place_next i.medial;
          going = x.going;
          comes = x.comes;
          size = x.size;
          began = x.began ∙ sym (tokens_append ts (done_by r q));
        }

    -- a token goes on or begins
    pub after_turn : (r : ℕ) → turn ≡ r → r ≤ 1 →
        After s text ts q (kind_of trait_meaning traits) (leb 8 traits) r (after_of traits) (start_by r (tokens_width ts) at) mid (at + len)
    after_turn zero e h = after_moving 0 (turn_is 0 e)
    after_turn (suc zero) e h = after_moving 1 (turn_is 1 e)
    after_turn (suc (suc r)) e h = absurd (omega arith)

    -- a medial waits
    pub after_waiting : turn ≡ 2 → (p : Under) × (under_way_of p ≡ under_way_of q) × Reached s text (waiting_of traits) at (at + len) ts p
    after_waiting e =
        let x = turn_is 2 e in
        (x.next, x.kept, record { place = place_next; medial = i.place; stands = x.stands; same = moves_on [] x.next x.same })

    -- the one that waits is settled
    pub settles_here : turn ≡ 3 → (waiting ≤ state) × Settles (L s) q (characters_at text at)
    settles_here e = let x = turn_is 3 e in (x.0, subst (Settles (L s) q) (sym t.decoded) (x.1 next))

    -- no token begins
    pub left_here : 4 ≤ turn → (at ≡ tokens_width ts + tokens_width (under_way_of q)) × (preceded ts (tokens_left (under_way_of q) (unit ∷ next)) ≡ reading_of s text)
    left_here h = go turn refl h
      where
        go : (r : ℕ) → turn ≡ r → 4 ≤ r →
            (at ≡ tokens_width ts + tokens_width (under_way_of q)) × (preceded ts (tokens_left (under_way_of q) (unit ∷ next)) ≡ reading_of s text)
        go (suc (suc (suc (suc n)))) e l = let x = turn_is (suc (suc (suc (suc n)))) e in (x.1, ap (λ m. preceded ts (meant (L s) m next)) (sym x.0) ∙ read_on)
        go zero e l = absurd (omega arith)
        go (suc zero) e l = absurd (omega arith)
        go (suc (suc zero)) e l = absurd (omega arith)
        go (suc (suc (suc zero))) e l = absurd (omega arith)
