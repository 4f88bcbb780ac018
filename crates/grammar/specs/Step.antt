-- One step of a reader of tokens, over any units and kinds: a small state, and what the next unit makes certain
-- (docs/RULES.md, "Tokens"). Nothing looks ahead: a medial that may link a token to the unit after it waits in the state.
-- `proofs/StepLaws.antt` joins the steps to the one-pass reading.
--
--   Local               rules that look at one unit at a time
--   State               what is under way
--   Move                what units make certain
--   tok                 the token of a kind with these units
--   under_way_of            the token under way
--   after, preceded     tokens before those of a move; before those of a reading
--   tokens_left          the reading of tokens, and then of units that are left
--   follow              a move, then what the state after it does with the units that follow
--   goes_first, more_by   whether a token of a kind goes on with the first of units; whether it goes on at all
--   rules_by             the same rules for the one-pass reader
--   begin, complete     the move of a unit: where nothing is under way; where a token is complete before it
--   continue, resume    .. where a token is under way; after a unit that waited and links nothing
--   step, run           the move of a unit in a state; of units, one by one
--   settle              what waits is settled: it links nothing
--   ended               the reading where the text ends after a move, and nothing waits
--   finish, closed      the reading where the text ends in a state; after any move
use Rattle.std.specs.Prelude.{Bool, false, ◌&&◌, ◌||◌, cond, List, [], ◌∷◌, ◌++◌}
use Rattle.std.proofs.Math.Option.{Option, none, some}
use Rattle.grammar.specs.Scan.{Tok, Reading, Rules}

-- the kind of token that a unit begins; whether a token of a kind goes on with a unit; whether it does if it goes on with the unit
-- after it (a medial)
pub record Local (A K : Type 0) : Type 0 where
  pub kind_of : A → Option K
  pub goes : K → A → Bool
  pub links : K → A → Bool

-- nothing; a token of a kind with its units so far; such a token, and one unit after it that waits
pub data State (A K : Type 0) : Type 0 where
  idle : State A K
  under : K → List A → State A K
  held : K → List A → A → State A K

-- tokens, and the state after them; or tokens, then a unit that begins no token, and the units after it
pub data Move (A K : Type 0) : Type 0 where
  moves : List (Tok A K) → State A K → Move A K
  stops : List (Tok A K) → A → List A → Move A K

module _ {A K : Type 0} where
  abbrev pub tok : K → List A → Tok A K
  tok k u = record { kind = k; units = u }

  abbrev pub under_way_of : State A K → List (Tok A K)
  under_way_of idle = []
  under_way_of (under k u) = tok k u ∷ []
  under_way_of (held k u d) = tok k u ∷ []

  abbrev pub after : List (Tok A K) → Move A K → Move A K
  after ts (moves us q) = moves (ts ++ us) q
  after ts (stops us d l) = stops (ts ++ us) d l

  abbrev pub preceded : List (Tok A K) → Reading A K → Reading A K
  preceded ts w = record { run = w.run; tokens = ts ++ w.tokens; left = w.left }

  abbrev pub tokens_left : List (Tok A K) → List A → Reading A K
  tokens_left ts l = record { run = []; tokens = ts; left = l }

  -- the units that follow are r
  abbrev pub follow : Move A K → (State A K → Move A K) → List A → Move A K
  follow (moves ts q) f r = after ts (f q)
  follow (stops ts d l) f r = stops ts d (l ++ r)

module _ {A K : Type 0} (L : Local A K) where
  abbrev pub goes_first : K → List A → Bool
  goes_first k [] = false
  goes_first k (c ∷ r) = L.goes k c

  abbrev pub more_by : K → List A → Bool
  more_by k [] = false
  more_by k (c ∷ r) = L.goes k c || (L.links k c && goes_first k r)

  abbrev pub rules_by : Rules A K
  rules_by = record { kind_of = L.kind_of; more = more_by }

  abbrev pub begin : Option K → A → Move A K
  begin none c = stops [] c []
  begin (some k) c = moves [] (under k (c ∷ []))

  abbrev pub complete : K → List A → A → Move A K
  complete k u c = after (tok k u ∷ []) (begin (L.kind_of c) c)

  abbrev pub continue : K → List A → A → Move A K
  continue k u c = cond (L.goes k c) (moves [] (under k (u ++ c ∷ []))) (cond (L.links k c) (moves [] (held k u c)) (complete k u c))

  -- the unit d that waited stands for itself
  abbrev pub resume : Option K → A → A → Move A K
  resume none d c = stops [] d (c ∷ [])
  resume (some j) d c = continue j (d ∷ []) c

  unfoldable pub step : State A K → A → Move A K
  step idle c = begin (L.kind_of c) c
  step (under k u) c = continue k u c
  step (held k u d) c = cond (L.goes k c) (moves [] (under k (u ++ d ∷ c ∷ []))) (after (tok k u ∷ []) (resume (L.kind_of d) d c))

  unfoldable pub run : State A K → List A → Move A K
  run q [] = moves [] q
  run q (c ∷ r) = follow (step q c) (λ (p : State A K). run p r) r

  -- after that, the same unit may follow again (`step_settles`), or the text ends
  unfoldable pub settle : State A K → Move A K
  settle idle = moves [] idle
  settle (under k u) = moves [] (under k u)
  settle (held k u d) = complete k u d

  -- the token under way is complete
  abbrev pub ended : Move A K → Reading A K
  ended (moves ts q) = tokens_left (ts ++ under_way_of q) []
  ended (stops ts d l) = tokens_left ts (d ∷ l)

  unfoldable pub finish : State A K → Reading A K
  finish q = ended (settle q)

  abbrev pub closed : Move A K → Reading A K
  closed (moves ts q) = preceded ts (finish q)
  closed (stops ts d l) = tokens_left ts (d ∷ l)
