-- The turns on numbers are the steps of `grammar`, for every character under an accepted image. Assumes nothing.
use Prim.Native.Nat.{ℕ, zero, suc, ◌+◌, ◌-◌, ◌%◌, ◌≤◌, ◌<◌}
use mathlib.Core.Path.{◌≡◌, refl, sym, ap, subst, ◌∙◌}
use mathlib.Core.Bool.{Bool, true, false, true≢false, ◌&&◌, cond}
use mathlib.Core.List.{List, [], ◌∷◌, ◌++◌}
use mathlib.Core.Option.{Option, none, some}
use native.Mathlib.Omega.{arith}
use lib.ListN.{length}
use lib.Dec.{leb}
use Rattle.lists.proofs.BoolLaws.{impossible}
use Rattle.utf8.specs.Text.{Character, width_of}
use Rattle.utf8.proofs.TextLaws.{width_append}
use Rattle.image.specs.Class.{Class, Unassigned, Start, Nonstart, Syntax, White, Other}
use Rattle.image.specs.Check.{refusal_of}
use Rattle.character.specs.Traits.{token_traits, part_class, part_white}
use Rattle.character.proofs.TraitLaws.{token_class, token_white, token_medial}
use Rattle.grammar.specs.Scan.{Tok}
use Rattle.grammar.specs.Step.{Local, State, idle, under, held, moves, stops, under_way_of, begin, step, settle}
use Rattle.grammar.specs.White.{WhiteKind, blank, line_end, mark, same_white}
use Rattle.grammar.specs.Meaning.{Meaning}
use Rattle.grammar.specs.Grammar.{Kind, identifier, syntax, whitespace}
use Rattle.grammar.specs.Kinds.{kind_number, is_continue, is_white, kind_by, kind_of, goes_with, links_with, local_rules}
use Rattle.grammar.specs.Record.{tokens_width}
use Rattle.grammar.specs.Beside.{medial_first}
use Rattle.grammar.specs.Reading.{meaning_of}
use Rattle.grammar.proofs.GrammarLaws.{white_means, white_goes}
use Rattle.grammar.proofs.StepLaws.{Settles}
use Rattle.turns.specs.Turns.{number_by, trait_meaning, waiting_of, Phase, nothing, within, waits, waiting, states, phase_named, begun_by, turn_by, turn_of, after_of, start_by}

abbrev pub Tokens : Type 0
Tokens = List (Tok Character Kind)

abbrev pub Under : Type 0
Under = State Character Kind

abbrev pub L : List ℕ → Local Character Kind
L s = local_rules (meaning_of s)

-- what the numbers of the code stand for at the place `at`: nothing under way; a token since `start`; an identifier since `start`
-- and a medial at `mid` that waits
abbrev pub Stands : List ℕ → Under → ℕ → ℕ → ℕ → ℕ → Type 0
Stands s idle state start mid at = (state ≡ 0) × (at ≡ start)
Stands s (under k u) state start mid at = (state ≡ kind_number k) × (at ≡ start + width_of u)
Stands s (held k u d) state start mid at =
    (state ≡ waiting + number_by (kind_of (meaning_of s) d)) × (mid ≡ start + width_of u) × (at ≡ mid + d.width) × (k ≡ identifier) × ((meaning_of s).medial d ≡ true)

pub kind_less : (k : Kind) → (0 < kind_number k) × (kind_number k < waiting)
kind_less identifier = (omega arith, omega arith)
kind_less syntax = (omega arith, omega arith)
kind_less (whitespace blank) = (omega arith, omega arith)
kind_less (whitespace line_end) = (omega arith, omega arith)
kind_less (whitespace mark) = (omega arith, omega arith)

pub number_less : (o : Option Kind) → number_by o < waiting
number_less none = omega arith
number_less (some k) = (kind_less k).1

abbrev phase_in : Under → Phase
phase_in idle = nothing
phase_in (under k u) = within k
phase_in (held k u d) = waits

phase_kind : (k : Kind) → phase_named (kind_number k) ≡ within k
phase_kind identifier = refl
phase_kind syntax = refl
phase_kind (whitespace blank) = refl
phase_kind (whitespace line_end) = refl
phase_kind (whitespace mark) = refl

pub phase_waits : (n : ℕ) → waiting ≤ n → phase_named n ≡ waits
phase_waits zero h = absurd (omega arith)
phase_waits (suc zero) h = absurd (omega arith)
phase_waits (suc (suc zero)) h = absurd (omega arith)
phase_waits (suc (suc (suc zero))) h = absurd (omega arith)
phase_waits (suc (suc (suc (suc zero)))) h = absurd (omega arith)
phase_waits (suc (suc (suc (suc (suc zero))))) h = absurd (omega arith)
phase_waits (suc (suc (suc (suc (suc (suc n)))))) h = refl

pub phase_under : (n : ℕ) → (n ≡ 0 → ⊥) → n < waiting → (k : Kind) × (phase_named n ≡ within k) × (n ≡ kind_number k)
phase_under zero h l = absurd (h refl)
phase_under (suc zero) h l = (identifier, refl, refl)
phase_under (suc (suc zero)) h l = (syntax, refl, refl)
phase_under (suc (suc (suc zero))) h l = (whitespace blank, refl, refl)
phase_under (suc (suc (suc (suc zero)))) h l = (whitespace line_end, refl, refl)
phase_under (suc (suc (suc (suc (suc zero))))) h l = (whitespace mark, refl, refl)
phase_under (suc (suc (suc (suc (suc (suc n)))))) h l = absurd (omega arith)

module _ (s : List ℕ) (state start mid at : ℕ) where
  pub phase_of : (q : Under) → Stands s q state start mid at → phase_named state ≡ phase_in q
  phase_of idle i = ap phase_named i.0
  phase_of (under k u) i = ap phase_named i.0 ∙ phase_kind k
  phase_of (held k u d) i = phase_waits state (omega (arith, i.0))

  pub stands_less : (q : Under) → Stands s q state start mid at → state < states
  stands_less idle i = omega (arith, i.0)
  stands_less (under k u) i = omega (arith, i.0, kind_less k)
  stands_less (held k u d) i = omega (arith, i.0, number_less (kind_of (meaning_of s) d))

-- the kind of White matters for White alone
kind_by_white : (v w : WhiteKind) (a : Class) → (a ≡ White → v ≡ w) → kind_by v a ≡ kind_by w a
kind_by_white v w Unassigned h = refl
kind_by_white v w Start h = refl
kind_by_white v w Nonstart h = refl
kind_by_white v w Syntax h = refl
kind_by_white v w White h = ap (λ w. some (whitespace w)) (h refl)
kind_by_white v w Other h = refl

goes_by_white : (j v w : WhiteKind) (b : Bool) → (b ≡ true → v ≡ w) → (b && same_white j v) ≡ (b && same_white j w)
goes_by_white j v w true h = ap (same_white j) (h refl)
goes_by_white j v w false h = refl

-- the state after a character by its class and kind of White: the kind of the token that it is in
abbrev after_class : WhiteKind → Class → ℕ
after_class w a = cond (is_continue a) (kind_number identifier) (number_by (kind_by w a))

after_begun : (w : WhiteKind) (a : Class) (k : Kind) → kind_by w a ≡ some k → after_class w a ≡ kind_number k
after_begun w Unassigned k e = ap number_by e
after_begun w Start k e = ap number_by e
after_begun w Nonstart k e = impossible (cc)
after_begun w Syntax k e = ap number_by e
after_begun w White k e = ap number_by e
after_begun w Other k e = ap number_by e

-- the tokens that a turn completes
abbrev pub done_by : ℕ → Under → Tokens
done_by zero q = []
done_by (suc r) q = under_way_of q

-- a token is under way, and nothing waits
abbrev pub Going : Under → Type 0
Going idle = ⊥
Going (under k u) = Unit {0}
Going (held k u d) = ⊥

-- the token under way after a turn: the first of the text, the one that was under way, or one that begins where that is complete. The kind
-- that the turn's character begins is o, and b says whether it is a medial
pub data Comes (s : List ℕ) (o : Option Kind) (b : Bool) : Under → ℕ → Under → Type 0 where
  first : {k : Kind} {u : List Character} → o ≡ some k → Comes s o b idle 0 (under k u)
  grown : {k : Kind} {u v : List Character} → (k ≡ syntax → ⊥) → Comes s o b (under k u) 0 (under k v)
  passed : {k : Kind} {u v : List Character} {d : Character} → Comes s o b (held k u d) 0 (under k v)
  begun : {q : Under} {k : Kind} {u : List Character} → o ≡ some k → medial_first (meaning_of s) u ≡ b → Comes s o b q 1 (under k u)

module _ (s : List ℕ) (c : Character) (t : ℕ) (q : Under) (state start mid at : ℕ) where
  -- a token goes on or begins, and is under way
  pub record Moved (r : ℕ) : Type 0 where
    pub next : Under
    pub same : step (L s) q c ≡ moves (done_by r q) next
    pub going : Going next
    pub comes : Comes s (kind_of trait_meaning t) (leb 8 t) q r next
    pub size : length (done_by r q) ≡ r
    pub began : start_by r start at ≡ start + tokens_width (done_by r q)
    pub stands : Stands s next (after_of t) (start + tokens_width (done_by r q)) mid (at + c.width)

  -- a medial waits after the token under way
  pub record Waits : Type 0 where
    pub next : Under
    pub same : step (L s) q c ≡ moves [] next
    pub kept : under_way_of next ≡ under_way_of q
    pub stands : Stands s next (waiting_of t) start at (at + c.width)

  -- what each turn says of the step
  abbrev pub Turned : ℕ → Type 0
  Turned zero = Moved 0
  Turned (suc zero) = Moved 1
  Turned (suc (suc zero)) = Waits
  Turned (suc (suc (suc zero))) = (waiting ≤ state) × ((r : List Character) → Settles (L s) q (c ∷ r))
  Turned (suc (suc (suc (suc n)))) = (step (L s) q c ≡ stops (under_way_of q) c []) × (at ≡ start + tokens_width (under_way_of q))

module _ (s : List ℕ) (accepted : refusal_of s ≡ none) (c : Character) (t : ℕ) (e : t ≡ token_traits s c.code) where
  abbrev M : Meaning Character
  M = meaning_of s

  -- the rules know the same of the traits as of the character
  class_of_lem : trait_meaning.class t ≡ M.class c
  unfolding meaning_of
  class_of_lem = ap (λ (n : ℕ). part_class (n % 8)) e ∙ token_class s c.code accepted

  white_of : M.class c ≡ White → trait_meaning.white t ≡ M.white c
  unfolding meaning_of
  white_of h = ap (λ (n : ℕ). part_white (n % 8)) e ∙ token_white s c.code accepted h

  medial_of : trait_meaning.medial t ≡ M.medial c
  unfolding meaning_of
  medial_of = ap (leb 8) e ∙ token_medial s c.code accepted

  kind_of_lem : kind_of trait_meaning t ≡ kind_of M c
  kind_of_lem = ap (kind_by (trait_meaning.white t)) class_of_lem ∙ kind_by_white (trait_meaning.white t) (M.white c) (M.class c) white_of

  waiting_of_lem : waiting_of t ≡ waiting + number_by (kind_of M c)
  unfolding waiting_of
  waiting_of_lem = ap (λ o. waiting + number_by o) kind_of_lem

  after_of_lem : after_of t ≡ after_class (M.white c) (M.class c)
  unfolding after_of
  after_of_lem = (λ i. cond (is_continue (class_of_lem i)) (kind_number identifier) (number_by (kind_of_lem i)))

  goes_of : (k : Kind) → goes_with trait_meaning k t ≡ goes_with M k c
  goes_of identifier = ap is_continue class_of_lem
  goes_of syntax = refl
  goes_of (whitespace w) =
      ap (λ a. is_white a && same_white w (trait_meaning.white t)) class_of_lem
      ∙ goes_by_white w (trait_meaning.white t) (M.white c) (is_white (M.class c)) (λ h. white_of (white_means (M.class c) h))

  links_of : (k : Kind) → links_with trait_meaning k t ≡ links_with M k c
  links_of identifier = medial_of
  links_of syntax = refl
  links_of (whitespace w) = refl

  turn_of_lem : (p : Phase) → turn_by trait_meaning p t ≡ turn_by M p c
  turn_of_lem nothing = ap (begun_by 0) kind_of_lem
  turn_of_lem (within k) = (λ i. cond (goes_of k i) 0 (cond (links_of k i) 2 (begun_by 1 (kind_of_lem i))))
  turn_of_lem waits = ap (λ b. cond b 0 3) (goes_of identifier)

  after_goes : (k : Kind) → goes_with M k c ≡ true → after_of t ≡ kind_number k
  after_goes identifier g = after_of_lem ∙ ap (λ b. cond b (kind_number identifier) (number_by (kind_of M c))) g
  after_goes syntax g = impossible (cc)
  after_goes (whitespace w) g = let x = white_goes M w c g in after_of_lem ∙ (λ i. after_class (x.1 i) (x.0 i))

  after_begins : (k : Kind) → kind_of M c ≡ some k → after_of t ≡ kind_number k
  after_begins k g = after_of_lem ∙ after_begun (M.white c) (M.class c) k g

  module _ (state start mid at : ℕ) where
    begins_by : (o : Option Kind) → kind_of M c ≡ o → at ≡ start → Turned s c t idle state start mid at (begun_by 0 o)
    unfolding step
    begins_by none g p = (ap (λ o. begin (L s) o c) g, omega arith)
    begins_by (some k) g p = record { next = under k (c ∷ []); same = ap (λ o. begin (L s) o c) g; going = tt; comes = first (kind_of_lem ∙ g); size = refl; began = omega arith; stands = (after_begins k g, omega arith) }

    ends_by : (k : Kind) (u : List Character) (o : Option Kind) → kind_of M c ≡ o → goes_with M k c ≡ false → links_with M k c ≡ false → at ≡ start + width_of u →
        Turned s c t (under k u) state start mid at (begun_by 1 o)
    unfolding step
    ends_by k u none g f l p = (rw (f, l, g), omega arith)
    ends_by k u (some j) g f l p = record { next = under j (c ∷ []); same = rw (f, l, g); going = tt; comes = begun (kind_of_lem ∙ g) (sym medial_of); size = refl; began = omega arith; stands = (after_begins j g, omega arith) }

    waits_by : (k : Kind) (u : List Character) → goes_with M k c ≡ false → links_with M k c ≡ true → at ≡ start + width_of u →
        Turned s c t (under k u) state start mid at 2
    unfolding step
    waits_by identifier u f l p = record { next = held identifier u c; same = rw (f, l); kept = refl; stands = (waiting_of_lem, p, refl, refl, l) }
    waits_by syntax u f l p = impossible (cc)
    waits_by (whitespace w) u f l p = impossible (cc)

    -- the law of turns: each says what the step is
    by_state : (q : Under) → Stands s q state start mid at → Turned s c t q state start mid at (turn_by M (phase_in q) c)
    unfolding step
    by_state idle i = begins_by (kind_of M c) refl i.1
    by_state (under k u) i = go (goes_with M k c) (links_with M k c) refl refl
      where
        go : (a b : Bool) → goes_with M k c ≡ a → links_with M k c ≡ b →
            Turned s c t (under k u) state start mid at (cond a 0 (cond b 2 (begun_by 1 (kind_of M c))))
        go true b f l = record { next = under k (u ++ c ∷ []); same = rw f; going = tt; comes = grown (λ z. true≢false (sym f ∙ ap (λ j. goes_with M j c) z)); size = refl; began = omega arith; stands = (after_goes k f, omega (arith, width_append u (c ∷ []), i.1)) }
        go false true f l = waits_by k u f l i.1
        go false false f l = ends_by k u (kind_of M c) refl f l i.1
    by_state (held k u d) i = subst (λ j. Turned s c t (held k u d) state start mid at (cond (goes_with M j c) 0 3)) i.3 (go (goes_with M k c) refl)
      where
        go : (b : Bool) → goes_with M k c ≡ b → Turned s c t (held k u d) state start mid at (cond b 0 3)
        go true f =
            record {
              next = under k (u ++ d ∷ c ∷ []);
              same = rw f;
              going = tt;
              comes = passed;
              size = refl;
              began = omega arith;
              stands = (after_goes k f, omega (arith, width_append u (d ∷ c ∷ []), i.1, i.2));
            }
        go false f = (omega (arith, i.0), λ r. f)

    pub turned : (q : Under) → Stands s q state start mid at → Turned s c t q state start mid at (turn_of state t)
    unfolding turn_of
    turned q i =
        subst (Turned s c t q state start mid at) (sym (ap (λ p. turn_by trait_meaning p t) (phase_of s state start mid at q i) ∙ turn_of_lem (phase_in q))) (by_state q i)

-- what waits is settled
module _ (s : List ℕ) (state start mid at : ℕ) where
  -- the medial is under way as a token of its own
  pub record Settled (q : Under) : Type 0 where
    pub next : Under
    pub same : settle (L s) q ≡ moves (under_way_of q) next
    pub going : Going next
    pub kind : Kind
    pub number : state ≡ waiting + kind_number kind
    pub comes : Comes s (some kind) true q 1 next
    pub size : length (under_way_of q) ≡ 1
    pub began : mid ≡ start + tokens_width (under_way_of q)
    pub stands : Stands s next (state - waiting) (start + tokens_width (under_way_of q)) mid at

  -- or it begins no token
  pub record Left (q : Under) : Type 0 where
    pub medial : Character
    pub same : settle (L s) q ≡ stops (under_way_of q) medial []
    pub place : mid ≡ start + tokens_width (under_way_of q)

  abbrev SettledBy : Option Kind → Under → Type 0
  SettledBy none q = Left q
  SettledBy (some k) q = Settled q

  settled_by : (q : Under) → Stands s q state start mid at → waiting ≤ state → (o : Option Kind) × (state ≡ waiting + number_by o) × SettledBy o q
  unfolding settle
  settled_by idle i h = absurd (omega (arith, i.0))
  settled_by (under k u) i h = absurd (omega (arith, i.0, kind_less k))
  settled_by (held k u d) i h = (kind_of (meaning_of s) d, i.0, go (kind_of (meaning_of s) d) refl)
    where
      go : (o : Option Kind) → kind_of (meaning_of s) d ≡ o → SettledBy o (held k u d)
      go none g = record { medial = d; same = rw g; place = omega (arith, i.1) }
      go (some j) g =
          let n = i.0 ∙ ap (λ (o : Option Kind). waiting + number_by o) g in
          record { next = under j (d ∷ []); same = rw g; going = tt; kind = j; number = n; comes = begun refl i.4; size = refl; began = omega (arith, i.1); stands = (omega arith, omega (arith, i.1, i.2)) }

  module _ (q : Under) (i : Stands s q state start mid at) (h : waiting ≤ state) where
    pub settled : (state ≡ waiting → ⊥) → Settled q
    settled n = let x = settled_by q i h in go x.0 x.1 x.2
      where
        go : (o : Option Kind) → state ≡ waiting + number_by o → SettledBy o q → Settled q
        go none e x = absurd (n e)
        go (some k) e x = x

    pub left : state ≡ waiting → Left q
    left n = let x = settled_by q i h in go x.0 x.1 x.2
      where
        go : (o : Option Kind) → state ≡ waiting + number_by o → SettledBy o q → Left q
        go none e x = x
        go (some k) e x = absurd (omega (arith, kind_less k))
