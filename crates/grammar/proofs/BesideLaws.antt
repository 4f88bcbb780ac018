-- The local test of refusal 14 gives what the second reading gives, for the tokens of a text that has a division. Assumes nothing.
use Prim.Native.Nat.{ℕ, ◌+◌, ◌<◌}
use mathlib.Core.Path.{◌≡◌, refl, sym, ap, subst, ◌∙◌}
use mathlib.Core.Bool.{Bool, true, false, true≢false, not, ◌&&◌, ◌||◌, cond}
use mathlib.Core.List.{List, [], ◌∷◌, ◌++◌, append_assoc, append-nil}
use mathlib.Core.Option.{Option, none, some}
use native.Mathlib.Nat.{add_assoc, add-zero, zero-add}
use native.Mathlib.Omega.{arith}
use lib.ListN.{length}
use Rattle.lists.proofs.BoolLaws.{impossible, or_none}
use Rattle.utf8.specs.Text.{Character}
use Rattle.grammar.specs.All.{All}
use Rattle.grammar.specs.White.{WhiteKind, blank, line_end, mark}
use Rattle.grammar.specs.Scan.{Tok, units_of, reading}
use Rattle.grammar.specs.Step.{Local, State, idle, under, held, Move, moves, stops, tok, after, follow, goes_first, more_by, begin, complete, continue, resume, step, run, settle, finish, closed}
use Rattle.grammar.specs.Division.{Division}
use Rattle.grammar.specs.Meaning.{Meaning}
use Rattle.grammar.specs.Grammar.{Kind, identifier, syntax, whitespace, Token}
use Rattle.grammar.specs.Kinds.{is_continue, kind_by, kind_of, goes_with, links_with, local_rules, rules}
use Rattle.grammar.specs.Record.{token_width, tokens_width}
use Rattle.grammar.specs.Marks.{not_white, first_not_white, last_not_white}
use Rattle.grammar.specs.Second.{parts_still, refuses_mark, first_refused}
use Rattle.grammar.specs.Beside.{View, other, after_identifier, after_medial, mark_after_identifier, mark_after_medial, medial_after_mark, medial_view, marked_view, white_view, next_view, parted_by, refused_by, either, medial_first, view_next, view_after, refused_from}
use Rattle.grammar.proofs.GrammarLaws.{first_class, fits, tokens_divide, tokens_unique}
use Rattle.grammar.proofs.DivisionLaws.{none_at_end, division_front, division_tokens}
use Rattle.grammar.proofs.StepLaws.{steps_read}
use Rattle.grammar.proofs.JoinLaws.{units_append, under_parts, held_parts, idle_parts}
use Rattle.grammar.proofs.RecordLaws.{tokens_append}

abbrev Tokens : Type 0
Tokens = List (Tok Character Kind)

-- the byte of a mark that is refused
abbrev pub place_of : Option Tokens → Option ℕ
place_of none = none
place_of (some before) = some (tokens_width before)

-- after a mark it matters only whether an identifier or such a medial stands before it
mark_marked : (v : View) (p q : ℕ) → marked_view (marked_view v p) q ≡ other
mark_marked other p q = refl
mark_marked after_identifier p q = refl
mark_marked after_medial p q = refl
mark_marked (mark_after_identifier r) p q = refl
mark_marked (mark_after_medial r) p q = refl
mark_marked (medial_after_mark r) p q = refl

white_marked : (v : View) (p q : ℕ) (w : WhiteKind) → marked_view (white_view v p w) q ≡ other
white_marked v p q blank = refl
white_marked v p q line_end = refl
white_marked v p q mark = mark_marked v p q

medial_marked : (v : View) (b : Bool) (q : ℕ) → (b ≡ true → v ≡ after_identifier → ⊥) → marked_view (cond b (medial_view v) other) q ≡ other
medial_marked v false q n = refl
medial_marked other true q n = refl
medial_marked after_identifier true q n = absurd (n refl refl)
medial_marked after_medial true q n = refl
medial_marked (mark_after_identifier r) true q n = refl
medial_marked (mark_after_medial r) true q n = refl
medial_marked (medial_after_mark r) true q n = refl

-- only an identifier leaves the view of one
abbrev is_after_identifier : View → Bool
is_after_identifier other = false
is_after_identifier after_identifier = true
is_after_identifier after_medial = false
is_after_identifier (mark_after_identifier q) = false
is_after_identifier (mark_after_medial q) = false
is_after_identifier (medial_after_mark q) = false

medial_view_lem : (v : View) → is_after_identifier (medial_view v) ≡ false
medial_view_lem other = refl
medial_view_lem after_identifier = refl
medial_view_lem after_medial = refl
medial_view_lem (mark_after_identifier q) = refl
medial_view_lem (mark_after_medial q) = refl
medial_view_lem (medial_after_mark q) = refl

marked_view_lem : (v : View) (p : ℕ) → is_after_identifier (marked_view v p) ≡ false
marked_view_lem other p = refl
marked_view_lem after_identifier p = refl
marked_view_lem after_medial p = refl
marked_view_lem (mark_after_identifier q) p = refl
marked_view_lem (mark_after_medial q) p = refl
marked_view_lem (medial_after_mark q) p = refl

pub next_identifier : (v : View) (p : ℕ) (k : Kind) (b : Bool) → next_view v p k b ≡ after_identifier → k ≡ identifier
next_identifier v p identifier b e = refl
next_identifier v p syntax true e = absurd (true≢false (ap is_after_identifier (sym e) ∙ medial_view_lem v))
next_identifier v p syntax false e = absurd (true≢false (ap is_after_identifier (sym e)))
next_identifier v p (whitespace blank) b e = absurd (true≢false (ap is_after_identifier (sym e)))
next_identifier v p (whitespace line_end) b e = absurd (true≢false (ap is_after_identifier (sym e)))
next_identifier v p (whitespace mark) b e = absurd (true≢false (ap is_after_identifier (sym e) ∙ marked_view_lem v p))

pub either_assoc : (o x y : Option ℕ) → either o (either x y) ≡ either (either o x) y
either_assoc none x y = refl
either_assoc (some q) x y = refl

-- whether the first of tokens is an identifier
abbrev pub is_identifier : Kind → Bool
is_identifier identifier = true
is_identifier syntax = false
is_identifier (whitespace w) = false

abbrev pub first_identifier : Tokens → Bool
first_identifier [] = false
first_identifier (t ∷ ts) = is_identifier t.kind

module _ (m : Meaning Character) where
  abbrev L : Local Character Kind
  L = local_rules m

  pub view_append : (v : View) (p : ℕ) (ts us : Tokens) → view_after m v p (ts ++ us) ≡ view_after m (view_after m v p ts) (p + tokens_width ts) us
  view_append v p [] us = rw add-zero
  view_append v p (t ∷ ts) us = view_append (view_next m v p t) (p + token_width t) ts us ∙ rw (add_assoc p (token_width t) (tokens_width ts))

  pub refused_append : (v : View) (p : ℕ) (ts us : Tokens) →
      refused_from m v p (ts ++ us) ≡ either (refused_from m v p ts) (refused_from m (view_after m v p ts) (p + tokens_width ts) us)
  refused_append v p [] us = rw add-zero
  refused_append v p (t ∷ ts) us =
      ap (either (refused_by v t.kind)) (refused_append (view_next m v p t) (p + token_width t) ts us ∙ rw (add_assoc p (token_width t) (tokens_width ts)))
      ∙ either_assoc (refused_by v t.kind) (refused_from m (view_next m v p t) (p + token_width t) ts) _

  -- the view of tokens from the text's beginning
  abbrev pub view_of : Tokens → View
  view_of ts = view_after m other 0 ts

  pub view_snoc : (ts : Tokens) (t : Tok Character Kind) → view_of (ts ++ t ∷ []) ≡ view_next m (view_of ts) (tokens_width ts) t
  view_snoc ts t = view_append other 0 ts (t ∷ []) ∙ ap (λ (p : ℕ). view_next m (view_of ts) p t) (zero-add (tokens_width ts))

  -- what a state has to do with the tokens ts before it: a Syntax under way that is a medial doesn't follow an identifier, since it would wait
  abbrev Sees : Tokens → State Character Kind → Type 0
  Sees ts idle = view_of ts ≡ other
  Sees ts (under k u) = k ≡ syntax → medial_first m u ≡ true → view_of ts ≡ after_identifier → ⊥
  Sees ts (held k u d) = (k ≡ identifier) × (m.medial d ≡ true) × (is_continue (m.class d) ≡ false)

  abbrev SeesAfter : Tokens → Move Character Kind → Type 0
  SeesAfter ts (moves us q) = Sees (ts ++ us) q
  SeesAfter ts (stops us d l) = Unit {0}

  sees_after : (ts us : Tokens) (x : Move Character Kind) → SeesAfter (ts ++ us) x → SeesAfter ts (after us x)
  sees_after ts us (moves vs q) h = subst (λ z. Sees z q) (append_assoc ts us vs) h
  sees_after ts us (stops vs d l) h = tt

  sees_complete : (ts : Tokens) (k : Kind) (u : List Character) (c : Character) → links_with m k c ≡ false → SeesAfter ts (complete L k u c)
  sees_complete ts k u c l = sees_after ts (tok k u ∷ []) (begin L (kind_of m c) c) (go (kind_of m c))
    where
      go : (o : Option Kind) → SeesAfter (ts ++ tok k u ∷ []) (begin L o c)
      go none = tt
      go (some j) = λ e f g.
          let n : k ≡ identifier = next_identifier (view_of ts) (tokens_width ts) k (medial_first m u) (sym (view_snoc ts (tok k u)) ∙ rw (append-nil (ts ++ tok k u ∷ [])) at g) in
          true≢false (sym f ∙ sym (ap (λ i. links_with m i c) n) ∙ l)

  sees_continue : (ts : Tokens) (k : Kind) (u : List Character) (c : Character) → SeesAfter ts (continue L k u c)
  sees_continue ts k u c = go (goes_with m k c) refl (links_with m k c) refl
    where
      go : (a : Bool) → goes_with m k c ≡ a → (b : Bool) → links_with m k c ≡ b → SeesAfter ts (continue L k u c)
      go true e b f = rw e (λ i. absurd (true≢false (sym e ∙ ap (λ j. goes_with m j c) i)))
      go false e true f = rw (e, f) (held_by k e f)
        where
          held_by : (k : Kind) → goes_with m k c ≡ false → links_with m k c ≡ true → (k ≡ identifier) × (m.medial c ≡ true) × (is_continue (m.class c) ≡ false)
          held_by identifier e f = (refl, f, e)
          held_by syntax e f = absurd (true≢false (sym f))
          held_by (whitespace w) e f = absurd (true≢false (sym f))
      go false e false f = rw (e, f) (sees_complete ts k u c f)

  sees_step : (ts : Tokens) (q : State Character Kind) (c : Character) → Sees ts q → SeesAfter ts (step L q c)
  unfolding step
  sees_step ts idle c h = go (kind_of m c)
    where
      go : (o : Option Kind) → SeesAfter ts (begin L o c)
      go none = tt
      go (some k) = λ e f g. let z : other ≡ after_identifier = sym h ∙ rw (append-nil ts) at g in true≢false (ap is_after_identifier (sym z))
  sees_step ts (under k u) c h = sees_continue ts k u c
  sees_step ts (held k u d) c h = go (goes_with m k c) refl
    where
      resumed : (o : Option Kind) → SeesAfter (ts ++ tok k u ∷ []) (resume L o d c)
      resumed none = tt
      resumed (some j) = sees_continue (ts ++ tok k u ∷ []) j (d ∷ []) c

      go : (b : Bool) → goes_with m k c ≡ b → SeesAfter ts (step L (held k u d) c)
      go true e = rw e (λ i. absurd (true≢false (sym e ∙ ap (λ j. goes_with m j c) i)))
      go false e = rw e (sees_after ts (tok k u ∷ []) (resume L (kind_of m d) d c) (resumed (kind_of m d)))

  sees_run : (ts : Tokens) (q : State Character Kind) (s : List Character) → Sees ts q → SeesAfter ts (run L q s)
  unfolding run
  sees_run ts q [] h = subst (λ z. Sees z q) (sym (append-nil ts)) h
  sees_run ts q (c ∷ r) h = go (step L q c) (sees_step ts q c h) (λ us p. sees_run (ts ++ us) p r)
    where
      go : (x : Move Character Kind) → SeesAfter ts x → ((us : Tokens) (p : State Character Kind) → Sees (ts ++ us) p → SeesAfter (ts ++ us) (run L p r)) →
          SeesAfter ts (follow x (λ p. run L p r) r)
      go (moves us p) g ih = sees_after ts us (run L p r) (ih us p g)
      go (stops us d l) g ih = tt

  -- the mark before tokens that they make refused: an identifier comes next, or such a medial Syntax and then an identifier
  abbrev pub if_identifier : ℕ → Tokens → Option ℕ
  if_identifier q ts = cond (first_identifier ts) (some q) none

  abbrev pub medial_ahead : View → Tokens → Option ℕ
  medial_ahead other ts = none
  medial_ahead after_identifier ts = none
  medial_ahead after_medial ts = none
  medial_ahead (mark_after_identifier q) ts = if_identifier q ts
  medial_ahead (mark_after_medial q) ts = none
  medial_ahead (medial_after_mark q) ts = none

  abbrev pub ahead_by : View → Kind → Bool → Tokens → Option ℕ
  ahead_by v identifier b ts = parted_by v
  ahead_by v syntax b ts = cond b (medial_ahead v ts) none
  ahead_by v (whitespace w) b ts = none

  abbrev pub ahead : View → Tokens → Option ℕ
  ahead v [] = none
  ahead v (t ∷ ts) = ahead_by v t.kind (medial_first m t.units) ts

  abbrev pub AllTokens : Tokens → Type 0
  AllTokens ts = All (λ t. Token m t.kind t.units) ts

  -- the first unit of a token tells its kind
  pub record Begins (t : Tok Character Kind) : Type 0 where
    pub first : Character
    pub others : List Character
    pub whole : t.units ≡ first ∷ others
    pub kind : kind_of m first ≡ some t.kind
    pub alone : t.kind ≡ syntax → others ≡ []

  pub begins_with : (t : Tok Character Kind) → Token m t.kind t.units → Begins t
  begins_with t h = go t.kind refl h
    where
      go : (k : Kind) → t.kind ≡ k → Token m k t.units → Begins t
      go identifier e h =
          let (c, v, w, f) = (fits m).starts identifier t.units h in
          record { first = c; others = v; whole = w; kind = f ∙ ap some (sym e); alone = λ z. impossible (cc) }
      go syntax e h =
          record { first = h.only; others = []; whole = h.whole; kind = ap (kind_by (m.white h.only)) h.class ∙ ap some (sym e); alone = λ _. refl }
      go (whitespace w) e h =
          let (c, v, x, f) = (fits m).starts (whitespace w) t.units h in
          record { first = c; others = v; whole = x; kind = f ∙ ap some (sym e); alone = λ z. impossible (cc) }

  -- a unit that begins a token is Continue where the token is an identifier
  identifier_goes : (c : Character) (k : Kind) → kind_of m c ≡ some k → is_continue (m.class c) ≡ is_identifier k
  identifier_goes c identifier e = ap is_continue (first_class (m.class c) (m.white c) identifier e)
  identifier_goes c syntax e = ap is_continue (first_class (m.class c) (m.white c) syntax e)
  identifier_goes c (whitespace w) e = ap is_continue (first_class (m.class c) (m.white c) (whitespace w) e).0

  first_goes : (ts : Tokens) → AllTokens ts → goes_first L identifier (units_of ts) ≡ first_identifier ts
  first_goes [] a = refl
  first_goes (t ∷ ts) a =
      let b = begins_with t a.0 in
      ap (λ u. goes_first L identifier (u ++ units_of ts)) b.whole ∙ identifier_goes b.first t.kind b.kind

  -- what an identifier before the tokens goes on with, and what such a medial does
  abbrev pub given_if : Bool → ℕ → Option ℕ
  given_if b q = cond b (some q) none

  identifier_ahead : (q : ℕ) (ts : Tokens) → AllTokens ts → ahead (mark_after_identifier q) ts ≡ given_if (first_not_white ts && more_by L identifier (units_of ts)) q
  identifier_ahead q [] a = refl
  identifier_ahead q (t ∷ ts) a = go t.kind refl (begins_with t a.0)
    where
      more : (b : Begins t) → more_by L identifier (units_of (t ∷ ts)) ≡ (is_identifier t.kind || (m.medial b.first && goes_first L identifier (b.others ++ units_of ts)))
      more b =
          ap (λ u. more_by L identifier (u ++ units_of ts)) b.whole
          ∙ ap (λ x. x || (m.medial b.first && goes_first L identifier (b.others ++ units_of ts))) (identifier_goes b.first t.kind b.kind)

      linked : (b n : Bool) → cond b (given_if n q) none ≡ given_if (b && n) q
      linked true n = refl
      linked false n = refl

      go : (k : Kind) → t.kind ≡ k → Begins t → ahead (mark_after_identifier q) (t ∷ ts) ≡ given_if (first_not_white (t ∷ ts) && more_by L identifier (units_of (t ∷ ts))) q
      go identifier e b = rw (more b, e)
      go syntax e b =
          let f : goes_first L identifier (b.others ++ units_of ts) ≡ first_identifier ts = ap (λ u. goes_first L identifier (u ++ units_of ts)) (b.alone e) ∙ first_goes ts a.1 in
          rw (more b, e, b.whole, f) (linked (m.medial b.first) (first_identifier ts))
      go (whitespace w) e b = rw e

  medial_ahead_lem : (q : ℕ) (ts : Tokens) → AllTokens ts → ahead (mark_after_medial q) ts ≡ given_if (first_not_white ts && goes_first L identifier (units_of ts)) q
  medial_ahead_lem q [] a = refl
  medial_ahead_lem q (t ∷ ts) a = go t.kind refl
    where
      nothing : (b : Bool) → cond {A = Option ℕ} b none none ≡ none
      nothing true = refl
      nothing false = refl

      go : (k : Kind) → t.kind ≡ k → ahead (mark_after_medial q) (t ∷ ts) ≡ given_if (first_not_white (t ∷ ts) && goes_first L identifier (units_of (t ∷ ts))) q
      go identifier e = rw (first_goes (t ∷ ts) a, e)
      go syntax e = rw (first_goes (t ∷ ts) a, e) (nothing (medial_first m t.units))
      go (whitespace w) e = rw e

  -- views of no mark
  quiet_ahead : (v : View) (ts : Tokens) → parted_by v ≡ none → ((us : Tokens) → medial_ahead v us ≡ none) → ahead v ts ≡ none
  quiet_ahead v [] e g = refl
  quiet_ahead v (t ∷ ts) e g = go t.kind (medial_first m t.units)
    where
      go : (k : Kind) (b : Bool) → ahead_by v k b ts ≡ none
      go identifier b = e
      go syntax true = g ts
      go syntax false = refl
      go (whitespace w) b = refl

  pub other_ahead : (ts : Tokens) → ahead other ts ≡ none
  other_ahead ts = quiet_ahead other ts refl (λ us. refl)

  -- a medial Syntax after a mark: what follows it
  after_medial_lem : (q : ℕ) (ts : Tokens) → ahead (medial_after_mark q) ts ≡ if_identifier q ts
  after_medial_lem q [] = refl
  after_medial_lem q (t ∷ ts) = go t.kind (medial_first m t.units)
    where
      go : (k : Kind) (b : Bool) → ahead_by (medial_after_mark q) k b ts ≡ given_if (is_identifier k) q
      go identifier b = refl
      go syntax true = refl
      go syntax false = refl
      go (whitespace w) b = refl

  medials_ahead : (v : View) (b : Bool) (ts : Tokens) → ahead (cond b (medial_view v) other) ts ≡ cond b (medial_ahead v ts) none
  medials_ahead v false ts = other_ahead ts
  medials_ahead other true ts = other_ahead ts
  medials_ahead after_identifier true ts = quiet_ahead after_medial ts refl (λ us. refl)
  medials_ahead after_medial true ts = other_ahead ts
  medials_ahead (mark_after_identifier q) true ts = after_medial_lem q ts
  medials_ahead (mark_after_medial q) true ts = other_ahead ts
  medials_ahead (medial_after_mark q) true ts = other_ahead ts

  last_not_white_lem : (ts : Tokens) (t : Tok Character Kind) → last_not_white (ts ++ t ∷ []) ≡ not_white t.kind
  last_not_white_lem [] t = refl
  last_not_white_lem (x ∷ []) t = refl
  last_not_white_lem (x ∷ y ∷ ts) t = last_not_white_lem (y ∷ ts) t

  last_some : (ts : Tokens) (t : Tok Character Kind) → AllTokens (ts ++ t ∷ []) → 0 < length t.units
  last_some [] t a = let l = ap length (begins_with t a.0).whole in omega arith
  last_some (x ∷ ts) t a = last_some ts t a.1

  pub last_of : (t : Tok Character Kind) (ts : Tokens) → (xs : Tokens) × (x : Tok Character Kind) × (t ∷ ts ≡ xs ++ x ∷ [])
  last_of t [] = ([], t, refl)
  last_of t (u ∷ ts) = let (xs, x, e) = last_of u ts in (t ∷ xs, x, ap (λ z. t ∷ z) e)

  more_syntax : (s : List Character) → more_by L syntax s ≡ false
  more_syntax [] = refl
  more_syntax (c ∷ r) = refl

  -- a mark between tokens of a text that has a division: both tests agree
  module _ (before after : Tokens) (q : ℕ) (left : Division (Token m) (units_of before) before []) (right : AllTokens after) where
    abbrev pub Agrees : Type 0
    Agrees = ahead (marked_view (view_of before) q) after ≡ given_if (last_not_white before && (first_not_white after && not (parts_still m before after))) q

    hidden : last_not_white before ≡ false → marked_view (view_of before) q ≡ other → Agrees
    hidden e f = ap (λ v. ahead v after) f ∙ other_ahead after ∙ sym (ap (λ b. given_if (b && (first_not_white after && not (parts_still m before after))) q) e)

    parted : parts_still m before after ≡ true → marked_view (view_of before) q ≡ other → Agrees
    parted e f = ap (λ v. ahead v after) f ∙ other_ahead after ∙ sym (ap (λ b. given_if (last_not_white before && (first_not_white after && not b)) q) e ∙ go (last_not_white before) (first_not_white after))
      where
        go : (a b : Bool) → given_if (a && (b && false)) q ≡ none
        go true true = refl
        go true false = refl
        go false b = refl

    -- by what is under way before the mark
    given_by : (b : Bool) → last_not_white before ≡ true → parts_still m before after ≡ not b →
        given_if (first_not_white after && b) q ≡ given_if (last_not_white before && (first_not_white after && not (parts_still m before after))) q
    given_by b e f = rw (e, f) (go b)
      where
        go : (b : Bool) → given_if (first_not_white after && b) q ≡ given_if (first_not_white after && not (not b)) q
        go true = refl
        go false = refl

    under_agrees : (ts : Tokens) (k : Kind) (u : List Character) → run L idle (units_of before) ≡ moves ts (under k u) → Sees ts (under k u) → before ≡ ts ++ tok k u ∷ [] → Agrees
    unfolding parts_still
    under_agrees ts k u e h f = go k refl
      where
        view : view_of before ≡ next_view (view_of ts) (tokens_width ts) k (medial_first m u)
        view = ap view_of f ∙ view_snoc ts (tok k u)

        seen : last_not_white before ≡ not_white k
        seen = ap last_not_white f ∙ last_not_white_lem ts (tok k u)

        parts : parts_still m before after ≡ not (more_by L k (units_of after))
        parts = under_parts L (units_of before) (units_of after) ts k u e (last_some ts (tok k u) (rw f at (division_tokens (Token m) left)))

        go : (j : Kind) → k ≡ j → Agrees
        go identifier i =
            ap (λ v. ahead (marked_view v q) after) (view ∙ ap (λ j. next_view (view_of ts) (tokens_width ts) j (medial_first m u)) i) ∙ identifier_ahead q after right
            ∙ given_by (more_by L identifier (units_of after)) (seen ∙ ap not_white i) (parts ∙ ap (λ j. not (more_by L j (units_of after))) i)
        go syntax i =
            parted (parts ∙ ap not (ap (λ j. more_by L j (units_of after)) i ∙ more_syntax (units_of after)))
            (ap (λ v. marked_view v q) (view ∙ ap (λ j. next_view (view_of ts) (tokens_width ts) j (medial_first m u)) i) ∙ medial_marked (view_of ts) (medial_first m u) q (h i))
        go (whitespace w) i =
            hidden (seen ∙ ap not_white i)
            (ap (λ v. marked_view v q) (view ∙ ap (λ j. next_view (view_of ts) (tokens_width ts) j (medial_first m u)) i) ∙ white_marked (view_of ts) (tokens_width ts) q w)

    held_agrees : (ts : Tokens) (u : List Character) (d : Character) (j : Kind) → run L idle (units_of before) ≡ moves ts (held identifier u d) → m.medial d ≡ true →
        is_continue (m.class d) ≡ false → kind_of m d ≡ some j → before ≡ ts ++ tok identifier u ∷ tok j (d ∷ []) ∷ [] → Agrees
    unfolding parts_still
    held_agrees ts u d j e h n g f = go j refl
      where
        front : Tokens
        front = ts ++ tok identifier u ∷ []

        whole : before ≡ front ++ tok j (d ∷ []) ∷ []
        whole = f ∙ sym (append_assoc ts (tok identifier u ∷ []) (tok j (d ∷ []) ∷ []))

        view : view_of before ≡ next_view after_identifier (tokens_width front) j true
        view = ap view_of whole ∙ view_snoc front (tok j (d ∷ [])) ∙ (λ i. next_view (view_snoc ts (tok identifier u) i) (tokens_width front) j (h i))

        seen : last_not_white before ≡ not_white j
        seen = ap last_not_white whole ∙ last_not_white_lem front (tok j (d ∷ []))

        parts : parts_still m before after ≡ not (goes_first L identifier (units_of after) || more_by L j (units_of after))
        parts = held_parts L (units_of before) (units_of after) ts identifier u d j e g

        go : (k : Kind) → j ≡ k → Agrees
        go identifier i = absurd (true≢false (sym (identifier_goes d j g ∙ ap is_identifier i) ∙ n))
        go syntax i =
            ap (λ v. ahead (marked_view v q) after) (view ∙ ap (λ k. next_view after_identifier (tokens_width front) k true) i) ∙ medial_ahead_lem q after right
            ∙ given_by (goes_first L identifier (units_of after)) (seen ∙ ap not_white i)
            (parts ∙ ap (λ k. not (goes_first L identifier (units_of after) || more_by L k (units_of after))) i
            ∙ ap (λ b. not (goes_first L identifier (units_of after) || b)) (more_syntax (units_of after)) ∙ ap not (or_none (goes_first L identifier (units_of after))))
        go (whitespace w) i =
            hidden (seen ∙ ap not_white i) (ap (λ v. marked_view v q) (view ∙ ap (λ k. next_view after_identifier (tokens_width front) k true) i) ∙ white_marked after_identifier (tokens_width front) q w)

    idle_agrees : (ts : Tokens) → run L idle (units_of before) ≡ moves ts idle → view_of ts ≡ other → before ≡ ts → Agrees
    unfolding parts_still
    idle_agrees [] e h f = hidden (ap last_not_white f) (ap (λ z. marked_view (view_of z) q) f)
    idle_agrees (t ∷ ts) e h f =
        let (xs, x, g) = last_of t ts in
        parted (idle_parts L (units_of before) (units_of after) (t ∷ ts) xs x g e) (ap (λ z. marked_view (view_of z) q) f ∙ ap (λ v. marked_view v q) h)

    by_state : (ts : Tokens) (x : State Character Kind) → run L idle (units_of before) ≡ moves ts x → Sees ts x → before ≡ ts ++ (finish L x).tokens → [] ≡ (finish L x).left → Agrees
    unfolding finish settle
    by_state ts idle e h f g = idle_agrees ts e h (f ∙ append-nil ts)
    by_state ts (under k u) e h f g = under_agrees ts k u e h f
    by_state ts (held k u d) e h f g = go (kind_of m d) refl
      where
        go : (o : Option Kind) → kind_of m d ≡ o → Agrees
        go none i = let z : ◌≡◌ {A = List Character} [] (d ∷ []) = g ∙ rw i in impossible (cc)
        go (some j) i =
            let r = h.0 in
            held_agrees ts u d j (e ∙ ap (λ k. moves ts (held k u d)) r) h.1 h.2 i (f ∙ ap (λ x. ts ++ x) (rw (i, r)))

    pub agrees : Agrees
    agrees = go (run L idle (units_of before)) refl (sees_run [] idle (units_of before) refl)
      where
        read : reading (rules m) (units_of before) ≡ closed L (run L idle (units_of before))
        read = sym (steps_read L (units_of before))

        same : (before ≡ (reading (rules m) (units_of before)).tokens) × ([] ≡ (reading (rules m) (units_of before)).left)
        same = tokens_unique m left (tokens_divide m (units_of before))

        go : (x : Move Character Kind) → run L idle (units_of before) ≡ x → SeesAfter [] x → Agrees
        go (moves ts x) e h =
            by_state ts x e h (same.0 ∙ ap (λ w. w.tokens) (read ∙ ap (closed L) e)) (same.1 ∙ ap (λ w. w.left) (read ∙ ap (closed L) e))
        go (stops ts d l) e h = let z : ◌≡◌ {A = List Character} [] (d ∷ l) = same.1 ∙ ap (λ w. w.left) (read ∙ ap (closed L) e) in impossible (cc)

  pub all_after : (ts us : Tokens) → AllTokens (ts ++ us) → AllTokens us
  all_after [] us a = a
  all_after (t ∷ ts) us a = all_after ts us a.1

  -- along the tokens of a text: what is refused ahead of them, and then what the second reading refuses among them
  abbrev Along : Tokens → Tokens → Type 0
  Along before ts = refused_from m (view_of before) (tokens_width before) ts ≡ either (ahead (view_of before) ts) (place_of (first_refused m before ts))

  along_next : (before : Tokens) (t : Tok Character Kind) (ts : Tokens) {left : List Character} → Division (Token m) (units_of (before ++ t ∷ ts)) (before ++ t ∷ ts) left →
      Along (before ++ t ∷ []) ts → Along before (t ∷ ts)
  unfolding first_refused refuses_mark
  along_next before t ts d ih = ap (either (refused_by (view_of before) t.kind)) next ∙ go t.kind refl
    where
      next : refused_from m (view_next m (view_of before) (tokens_width before) t) (tokens_width before + token_width t) ts
          ≡ either (ahead (view_next m (view_of before) (tokens_width before) t) ts) (place_of (first_refused m (before ++ t ∷ []) ts))
      next =
          let e = view_snoc before t in
          let w : tokens_width (before ++ t ∷ []) ≡ tokens_width before + token_width t = tokens_append before (t ∷ []) ∙ ap (λ (n : ℕ). tokens_width before + n) (add-zero (token_width t)) in
          (λ j. refused_from m (sym e j) (sym w j) ts) ∙ ih ∙ (λ j. either (ahead (e j) ts) (place_of (first_refused m (before ++ t ∷ []) ts)))

      marked : (o : Option Tokens) (b : Bool) → either (given_if b (tokens_width before)) (place_of o) ≡ place_of (cond b (some before) o)
      marked o true = refl
      marked o false = refl

      go : (k : Kind) → t.kind ≡ k →
          either (refused_by (view_of before) t.kind) (either (ahead (view_next m (view_of before) (tokens_width before) t) ts) (place_of (first_refused m (before ++ t ∷ []) ts)))
          ≡ either (ahead (view_of before) (t ∷ ts)) (place_of (first_refused m before (t ∷ ts)))
      go identifier e = rw (e, quiet_ahead after_identifier ts refl (λ us. refl))
      go syntax e = rw (e, medials_ahead (view_of before) (medial_first m t.units) ts)
      go (whitespace blank) e = rw (e, other_ahead ts)
      go (whitespace line_end) e = rw (e, other_ahead ts)
      go (whitespace mark) e =
          let l = division_front (Token m) (none_at_end (Token m) (rules m) (fits m)) before (t ∷ ts) (units_of (t ∷ ts)) (units_append before (t ∷ ts)) d in
          let r = (all_after before (t ∷ ts) (division_tokens (Token m) d)).1 in
          rw (e, agrees before ts (tokens_width before) l r) (marked _ (last_not_white before && (first_not_white ts && not (parts_still m before ts))))

  along : (before ts : Tokens) {left : List Character} → Division (Token m) (units_of (before ++ ts)) (before ++ ts) left → Along before ts
  unfolding first_refused
  along before [] d = refl
  along before (t ∷ ts) {left} d =
      along_next before t ts d (along (before ++ t ∷ []) ts (subst (λ z. Division (Token m) (units_of z) z left) (sym (append_assoc before (t ∷ []) ts)) d))

  pub beside_second : (ts : Tokens) {left : List Character} → Division (Token m) (units_of ts) ts left → refused_from m other 0 ts ≡ place_of (first_refused m [] ts)
  beside_second ts d = along [] ts d ∙ ap (λ o. either o (place_of (first_refused m [] ts))) (other_ahead ts)
