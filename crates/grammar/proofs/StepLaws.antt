-- Stepping through a text gives the one-pass reading, whatever the cutting. Assumes nothing.
use mathlib.Core.Path.{◌≡◌, refl, sym, ap, ◌∙◌}
use mathlib.Core.Bool.{Bool, true, false, cond}
use mathlib.Core.List.{List, [], ◌∷◌, ◌++◌, append_assoc, append-nil}
use mathlib.Core.Option.{Option, none, some}
use Prim.Native.Nat.{◌≤◌}
use native.Mathlib.Omega.{arith}
use lib.ListN.{length}
use Rattle.grammar.specs.Scan.{Tok, Reading, Rules, stopped, walk, reading}
use Rattle.grammar.specs.Step.{Local, State, idle, under, held, Move, moves, stops, tok, under_way_of, after, preceded, tokens_left, follow, goes_first, more_by, rules_by, begin, complete, continue, resume, step, run, settle, ended, finish, closed}
use Rattle.grammar.proofs.ScanLaws.{walk_nil, walk_more, walk_stop, walk_open, walk_ends, run_none}

module _ {A K : Type 0} where
  -- moves, one after the other
  after_none : (m : Move A K) → after [] m ≡ m
  after_none (moves ts q) = refl
  after_none (stops ts d l) = refl

  after_after : (ts us : List (Tok A K)) (m : Move A K) → after ts (after us m) ≡ after (ts ++ us) m
  after_after ts us (moves vs q) = ap (λ x. moves x q) (sym (append_assoc ts us vs))
  after_after ts us (stops vs d l) = ap (λ x. stops x d l) (sym (append_assoc ts us vs))

  follow_after : (ts : List (Tok A K)) (m : Move A K) (f : State A K → Move A K) (r : List A) → after ts (follow m f r) ≡ follow (after ts m) f r
  follow_after ts (moves us q) f r = after_after ts us (f q)
  follow_after ts (stops us d l) f r = refl

  pub preceded_append : (ts us : List (Tok A K)) (w : Reading A K) → preceded ts (preceded us w) ≡ preceded (ts ++ us) w
  preceded_append ts us w = (λ i. record { run = w.run; tokens = sym (append_assoc ts us w.tokens) i; left = w.left })

module _ {A K : Type 0} (L : Local A K) where
  abbrev R : Rules A K
  R = rules_by L

  closed_after : (ts : List (Tok A K)) (m : Move A K) → closed L (after ts m) ≡ preceded ts (closed L m)
  closed_after ts (moves us q) = sym (preceded_append ts us (finish L q))
  closed_after ts (stops us d l) = refl

  -- a text read in two parts
  pub run_append : (q : State A K) (s t : List A) → run L q (s ++ t) ≡ follow (run L q s) (λ p. run L p t) t
  unfolding run
  run_append q [] t = sym (after_none (run L q t))
  run_append q (c ∷ s) t = go (step L q c) (λ p. run_append p s t)
    where
      go : (m : Move A K) → ((p : State A K) → run L p (s ++ t) ≡ follow (run L p s) (λ p. run L p t) t) →
          follow m (λ p. run L p (s ++ t)) (s ++ t) ≡ follow (follow m (λ p. run L p s) s) (λ p. run L p t) t
      go (moves ts p) ih = ap (after ts) (ih p) ∙ follow_after ts (run L p s) (λ p. run L p t) t
      go (stops ts d l) ih = ap (stops ts d) (sym (append_assoc l s t))

  -- a unit with which the token doesn't go on settles the one that waits, and is then looked at again
  pub step_settles : (k : K) (u : List A) (d c : A) → L.goes k c ≡ false → step L (held k u d) c ≡ follow (settle L (held k u d)) (λ q. step L q c) (c ∷ [])
  unfolding step settle
  step_settles k u d c e = rw e (go (L.kind_of d))
    where
      go : (o : Option K) → after (tok k u ∷ []) (resume L o d c) ≡ follow (after (tok k u ∷ []) (begin L o d)) (λ q. step L q c) (c ∷ [])
      go none = refl
      go (some j) = refl

  -- the reading of units where k with the units u is under way; w is the reading of what follows
  abbrev resumed : K → List A → Reading A K → Reading A K
  resumed k u w = tokens_left (tok k (u ++ w.run) ∷ w.tokens) w.left

  abbrev held_by : Bool → K → List A → A → List A → Reading A K
  held_by true k u d s = resumed k (u ++ d ∷ []) (walk R (some k) s)
  held_by false k u d s = preceded (tok k u ∷ []) (reading R (d ∷ s))

  -- the reading of what follows a state
  unfoldable pub read_from : State A K → List A → Reading A K
  read_from idle s = reading R s
  read_from (under k u) s = resumed k u (walk R (some k) s)
  read_from (held k u d) s = held_by (goes_first L k s) k u d s

  abbrev pub meant : Move A K → List A → Reading A K
  meant (moves ts q) r = preceded ts (read_from q r)
  meant (stops ts d l) r = tokens_left ts (d ∷ (l ++ r))

  meant_after : (t : Tok A K) (m : Move A K) (r : List A) → preceded (t ∷ []) (meant m r) ≡ meant (after (t ∷ []) m) r
  meant_after t (moves us q) r = refl
  meant_after t (stops us d l) r = refl

  grows : (k : K) (u : List A) (c : A) (r : List A) → more_by L k (c ∷ r) ≡ true →
      resumed k u (walk R (some k) (c ∷ r)) ≡ resumed k (u ++ c ∷ []) (walk R (some k) r)
  grows k u c r e =
      let w = walk R (some k) r in
      ap (resumed k u) (walk_more R (some k) c r e) ∙ ap (λ x. tokens_left (tok k x ∷ w.tokens) w.left) (sym (append_assoc u (c ∷ []) w.run))

  -- the token under way ends before the reading w of a text of its own
  ends_before : (k : K) (u : List A) (w : Reading A K) → w.run ≡ [] → resumed k u w ≡ preceded (tok k u ∷ []) w
  ends_before k u w e = (λ i. record { run = sym e i; tokens = tok k ((ap (λ x. u ++ x) e ∙ append-nil u) i) ∷ w.tokens; left = w.left })

  ends : (k : K) (u : List A) (c : A) (r : List A) → more_by L k (c ∷ r) ≡ false →
      resumed k u (walk R (some k) (c ∷ r)) ≡ preceded (tok k u ∷ []) (reading R (c ∷ r))
  ends k u c r e = ap (resumed k u) (walk_ends R (some k) c r e) ∙ ends_before k u (reading R (c ∷ r)) (run_none R (c ∷ r))

  begins : (c : A) (r : List A) → reading R (c ∷ r) ≡ meant (begin L (L.kind_of c) c) r
  unfolding read_from
  begins c r = go (L.kind_of c) refl
    where
      go : (o : Option K) → L.kind_of c ≡ o → reading R (c ∷ r) ≡ meant (begin L o c) r
      go none f = walk_stop R none c r refl f
      go (some j) f = walk_open R none c r j refl f

  completes : (k : K) (u : List A) (c : A) (r : List A) → preceded (tok k u ∷ []) (reading R (c ∷ r)) ≡ meant (complete L k u c) r
  completes k u c r = ap (preceded (tok k u ∷ [])) (begins c r) ∙ meant_after (tok k u) (begin L (L.kind_of c) c) r

  continues : (k : K) (u : List A) (c : A) (r : List A) → resumed k u (walk R (some k) (c ∷ r)) ≡ meant (continue L k u c) r
  unfolding read_from
  continues k u c r = go (L.goes k c) (L.links k c) refl refl
    where
      linked : (b : Bool) → goes_first L k r ≡ b → more_by L k (c ∷ r) ≡ b → resumed k u (walk R (some k) (c ∷ r)) ≡ held_by b k u c r
      linked true g e = grows k u c r e
      linked false g e = ends k u c r e

      go : (a b : Bool) → L.goes k c ≡ a → L.links k c ≡ b →
          resumed k u (walk R (some k) (c ∷ r)) ≡ meant (cond a (moves [] (under k (u ++ c ∷ []))) (cond b (moves [] (held k u c)) (complete L k u c))) r
      go true b e f = grows k u c r (rw e)
      go false true e f = linked (goes_first L k r) refl (rw (e, f))
      go false false e f = ends k u c r (rw (e, f)) ∙ completes k u c r

  resumes : (d c : A) (r : List A) → reading R (d ∷ c ∷ r) ≡ meant (resume L (L.kind_of d) d c) r
  resumes d c r = go (L.kind_of d) refl
    where
      go : (o : Option K) → L.kind_of d ≡ o → reading R (d ∷ c ∷ r) ≡ meant (resume L o d c) r
      go none f = walk_stop R none d (c ∷ r) refl f
      go (some j) f = walk_open R none d (c ∷ r) j refl f ∙ continues j (d ∷ []) c r

  -- one step
  pub read_step : (q : State A K) (c : A) (r : List A) → read_from q (c ∷ r) ≡ meant (step L q c) r
  unfolding read_from step
  read_step idle c r = begins c r
  read_step (under k u) c r = continues k u c r
  read_step (held k u d) c r = go (L.goes k c) refl
    where
      go : (b : Bool) → L.goes k c ≡ b →
          held_by b k u d (c ∷ r) ≡ meant (cond b (moves [] (under k (u ++ d ∷ c ∷ []))) (after (tok k u ∷ []) (resume L (L.kind_of d) d c))) r
      go true e = grows k (u ++ d ∷ []) c r (rw e) ∙ ap (λ x. resumed k x (walk R (some k) r)) (append_assoc u (d ∷ []) (c ∷ []))
      go false e = ap (preceded (tok k u ∷ [])) (resumes d c r) ∙ meant_after (tok k u) (resume L (L.kind_of d) d c) r

  -- where the token under way doesn't go on with what follows, what waits is settled
  abbrev pub Settles : State A K → List A → Type 0
  Settles idle s = Unit {0}
  Settles (under k u) s = Unit {0}
  Settles (held k u d) s = goes_first L k s ≡ false

  pub read_settles : (q : State A K) (s : List A) → Settles q s → read_from q s ≡ meant (settle L q) s
  unfolding read_from settle
  read_settles idle s e = refl
  read_settles (under k u) s e = refl
  read_settles (held k u d) s e = ap (λ b. held_by b k u d s) e ∙ completes k u d s

  pub settles_first : (k : K) (u : List A) (d : A) (s : List A) → goes_first L k s ≡ false →
      read_from (held k u d) s ≡ preceded (tok k u ∷ []) (read_from idle (d ∷ s))
  unfolding read_from
  settles_first k u d s e = ap (λ b. held_by b k u d s) e

  -- the text's end
  read_under : (k : K) (u : List A) → read_from (under k u) [] ≡ tokens_left (tok k u ∷ []) []
  unfolding read_from
  read_under k u = ap (resumed k u) (walk_nil R (some k)) ∙ ends_before k u (stopped []) refl

  pub read_finish : (q : State A K) → read_from q [] ≡ finish L q
  unfolding read_from settle finish
  read_finish idle = walk_nil R none
  read_finish (under k u) = read_under k u
  read_finish (held k u d) = completes k u d [] ∙ go (L.kind_of d)
    where
      go : (o : Option K) → meant (after (tok k u ∷ []) (begin L o d)) [] ≡ ended L (after (tok k u ∷ []) (begin L o d))
      go none = refl
      go (some j) = ap (preceded (tok k u ∷ [])) (read_under j (d ∷ []))

  -- the reading of what follows a state is what its steps give
  pub run_reads : (q : State A K) (s : List A) → closed L (run L q s) ≡ read_from q s
  unfolding run
  run_reads q [] = sym (read_finish q)
  run_reads q (c ∷ r) = go (step L q c) (λ p. run_reads p r) ∙ sym (read_step q c r)
    where
      go : (m : Move A K) → ((p : State A K) → closed L (run L p r) ≡ read_from p r) → closed L (follow m (λ p. run L p r) r) ≡ meant m r
      go (moves ts p) ih = closed_after ts (run L p r) ∙ ap (preceded ts) (ih p)
      go (stops ts d l) ih = refl

  -- a text's steps and its end give its reading
  pub steps_read : (s : List A) → closed L (run L idle s) ≡ reading R s
  unfolding read_from
  steps_read s = run_reads idle s

  -- what has come out is the beginning of the reading, whatever follows
  follow_closed : (m : Move A K) (t : List A) → closed L (follow m (λ p. run L p t) t) ≡ meant m t
  follow_closed (moves ts q) t = closed_after ts (run L q t) ∙ ap (preceded ts) (run_reads q t)
  follow_closed (stops ts d l) t = refl

  pub certain : (s t : List A) → reading R (s ++ t) ≡ meant (run L idle s) t
  certain s t = sym (steps_read (s ++ t)) ∙ ap (closed L) (run_append idle s t) ∙ follow_closed (run L idle s) t

  -- a token of a kind that goes on with nothing is certain with its first unit
  pub certain_alone : (k : K) → ((c : A) → L.goes k c ≡ false) → ((c : A) → L.links k c ≡ false) → (u s : List A) →
      read_from (under k u) s ≡ preceded (tok k u ∷ []) (read_from idle s)
  unfolding read_from
  certain_alone k g l u [] = read_under k u ∙ ap (preceded (tok k u ∷ [])) (sym (walk_nil R none))
  certain_alone k g l u (c ∷ r) = ends k u c r (rw (g c, l c))

  -- the token under way is the first to come, or begins it
  pub first_comes : (q : State A K) (s : List A) → length (under_way_of q) ≤ length (read_from q s).tokens
  unfolding read_from
  first_comes idle s = omega arith
  first_comes (under k u) s = omega arith
  first_comes (held k u d) s = go (goes_first L k s)
    where
      go : (b : Bool) → 1 ≤ length (held_by b k u d s).tokens
      go true = omega arith
      go false = omega arith

  pub finish_begins : (q : State A K) → (us : List (Tok A K)) × ((finish L q).tokens ≡ under_way_of q ++ us)
  unfolding finish settle
  finish_begins idle = ([], refl)
  finish_begins (under k u) = ([], refl)
  finish_begins (held k u d) = go (L.kind_of d)
    where
      go : (o : Option K) → (us : List (Tok A K)) × ((ended L (after (tok k u ∷ []) (begin L o d))).tokens ≡ tok k u ∷ us)
      go none = ([], refl)
      go (some j) = (tok j (d ∷ []) ∷ [], refl)

  -- no more than two tokens are pending
  pub pending_two : (q : State A K) → length (finish L q).tokens ≤ 2
  unfolding finish settle
  pending_two idle = omega arith
  pending_two (under k u) = omega arith
  pending_two (held k u d) = go (L.kind_of d)
    where
      go : (o : Option K) → length (ended L (after (tok k u ∷ []) (begin L o d))).tokens ≤ 2
      go none = omega arith
      go (some j) = omega arith

  -- all tokens of a text but the last two begin the tokens of every text that begins with it
  pub record AllButTwo (s t : List A) : Type 0 where
    pub kept : List (Tok A K)
    pub last : List (Tok A K)
    pub others : List (Tok A K)
    pub before : (reading R s).tokens ≡ kept ++ last
    pub few : length last ≤ 2
    pub later : (reading R (s ++ t)).tokens ≡ kept ++ others

  pub all_but_two : (s t : List A) → AllButTwo s t
  all_but_two s t = go (run L idle s) (ap (λ w. w.tokens) (sym (steps_read s))) (ap (λ w. w.tokens) (certain s t))
    where
      go : (m : Move A K) → (reading R s).tokens ≡ (closed L m).tokens → (reading R (s ++ t)).tokens ≡ (meant m t).tokens → AllButTwo s t
      go (moves ts q) e f = record { kept = ts; last = (finish L q).tokens; others = (read_from q t).tokens; before = e; few = pending_two q; later = f }
      go (stops ts d l) e f = record { kept = ts; last = []; others = []; before = e ∙ sym (append-nil ts); few = omega arith; later = f ∙ sym (append-nil ts) }
