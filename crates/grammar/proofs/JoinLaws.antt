-- Where units are taken out of a text, whether a token still ends there: what is under way before the place tells it. Assumes nothing.
use Prim.Native.Nat.{ℕ, ◌+◌, ◌-◌, ◌<◌}
use mathlib.Core.Path.{◌≡◌, refl, sym, ap, ◌∙◌}
use mathlib.Core.Bool.{Bool, true, false, false≢true, not, ◌&&◌, ◌||◌}
use mathlib.Core.List.{List, [], ◌∷◌, ◌++◌, append_assoc, append-nil}
use mathlib.Core.Option.{Option, none, some}
use native.Mathlib.Omega.{arith}
use lib.ListN.{length, length-append}
use lib.Dec.{leb, eqb}
use borrow.Author.Tests.{le-leb, lt-leb, eq-eqb, ne_eqb}
use Rattle.lists.proofs.BoolLaws.{or_left, or_right, and_in}
use Rattle.grammar.specs.Scan.{Tok, Rules, units_of, walk, reading}
use Rattle.grammar.specs.Grammar.{Kind}
use Rattle.grammar.specs.Step.{Local, State, idle, under, held, Move, moves, stops, tok, after, follow, goes_first, more_by, rules_by, begin, complete, continue, resume, step, run}
use Rattle.grammar.specs.Second.{ends_after}
use Rattle.grammar.proofs.ScanLaws.{walk_nil, walk_more, walk_open, run_ends}
use Rattle.grammar.proofs.StepLaws.{read_from, meant, certain}

module _ {A K : Type 0} where
  pub units_append : (ts us : List (Tok A K)) → units_of (ts ++ us) ≡ units_of ts ++ units_of us
  units_append [] us = refl
  units_append (t ∷ ts) us = ap (λ x. t.units ++ x) (units_append ts us) ∙ sym (append_assoc t.units (units_of ts) (units_of us))

module _ {A : Type 0} where
  -- a token ends where it ends
  pub ends_yes : (n : ℕ) (xs : List (Tok A Kind)) (t : Tok A Kind) (ys : List (Tok A Kind)) → n ≡ length (units_of xs) + length t.units →
      ends_after n (xs ++ t ∷ ys) ≡ true
  ends_yes n [] t ys e = let k = length t.units in or_left (eqb n k) (leb k n && ends_after (n - k) ys) (eq-eqb n k (omega arith))
  ends_yes n (x ∷ xs) t ys e =
      let k = length x.units in
      let l = length-append x.units (units_of xs) in
      or_right (eqb n k) (leb k n && ends_after (n - k) (xs ++ t ∷ ys))
      (and_in (leb k n) (ends_after (n - k) (xs ++ t ∷ ys)) (le-leb k n (omega arith)) (ends_yes (n - k) xs t ys (omega arith)))

  -- none ends inside a token
  pub ends_no : (n : ℕ) (xs : List (Tok A Kind)) (t : Tok A Kind) (ys : List (Tok A Kind)) → length (units_of xs) < n →
      n < length (units_of xs) + length t.units → ends_after n (xs ++ t ∷ ys) ≡ false
  ends_no n [] t ys l h = let k = length t.units in rw (ne_eqb n k (λ e. absurd (omega arith)), lt-leb k n (omega arith))
  ends_no n (x ∷ xs) t ys l h =
      let k = length x.units in
      let m = length-append x.units (units_of xs) in
      rw (ne_eqb n k (λ e. absurd (omega (arith, m))), le-leb k n (omega (arith, m)), ends_no (n - k) xs t ys (omega (arith, m)) (omega (arith, m)))

module _ {A K : Type 0} (L : Local A K) where
  -- no unit is lost
  abbrev pub units_in : State A K → List A
  units_in idle = []
  units_in (under k u) = u
  units_in (held k u d) = u ++ d ∷ []

  abbrev covered : Move A K → List A
  covered (moves ts q) = units_of ts ++ units_in q
  covered (stops ts d l) = units_of ts ++ d ∷ l

  covered_after : (ts : List (Tok A K)) (m : Move A K) → covered (after ts m) ≡ units_of ts ++ covered m
  covered_after ts (moves us q) = ap (λ x. x ++ units_in q) (units_append ts us) ∙ append_assoc (units_of ts) (units_of us) (units_in q)
  covered_after ts (stops us d l) = ap (λ x. x ++ d ∷ l) (units_append ts us) ∙ append_assoc (units_of ts) (units_of us) (d ∷ l)

  covers_begin : (o : Option K) (c : A) → covered (begin L o c) ≡ c ∷ []
  covers_begin none c = refl
  covers_begin (some k) c = refl

  covers_complete : (k : K) (u : List A) (c : A) → covered (complete L k u c) ≡ u ++ c ∷ []
  covers_complete k u c =
      covered_after (tok k u ∷ []) (begin L (L.kind_of c) c) ∙ (λ i. append-nil u i ++ covers_begin (L.kind_of c) c i)

  covers_continue : (k : K) (u : List A) (c : A) → covered (continue L k u c) ≡ u ++ c ∷ []
  covers_continue k u c = go (L.goes k c) (L.links k c) refl refl
    where
      go : (a b : Bool) → L.goes k c ≡ a → L.links k c ≡ b → covered (continue L k u c) ≡ u ++ c ∷ []
      go true b e f = rw e
      go false true e f = rw (e, f)
      go false false e f = rw (e, f) (covers_complete k u c)

  covers_resume : (o : Option K) (d c : A) → covered (resume L o d c) ≡ d ∷ c ∷ []
  covers_resume none d c = refl
  covers_resume (some j) d c = covers_continue j (d ∷ []) c

  step_covers : (q : State A K) (c : A) → covered (step L q c) ≡ units_in q ++ c ∷ []
  unfolding step
  step_covers idle c = covers_begin (L.kind_of c) c
  step_covers (under k u) c = covers_continue k u c
  step_covers (held k u d) c = go (L.goes k c) refl ∙ sym (append_assoc u (d ∷ []) (c ∷ []))
    where
      go : (b : Bool) → L.goes k c ≡ b → covered (step L (held k u d) c) ≡ u ++ d ∷ c ∷ []
      go true e = rw e
      go false e = rw e (covered_after (tok k u ∷ []) (resume L (L.kind_of d) d c) ∙ (λ i. append-nil u i ++ covers_resume (L.kind_of d) d c i))

  run_covers : (q : State A K) (s : List A) → covered (run L q s) ≡ units_in q ++ s
  unfolding run
  run_covers q [] = sym (append-nil (units_in q))
  run_covers q (c ∷ r) = go (step L q c) (λ p. run_covers p r) (step_covers q c) ∙ append_assoc (units_in q) (c ∷ []) r
    where
      go : (m : Move A K) → ((p : State A K) → covered (run L p r) ≡ units_in p ++ r) → covered m ≡ units_in q ++ c ∷ [] →
          covered (follow m (λ p. run L p r) r) ≡ (units_in q ++ c ∷ []) ++ r
      go (moves ts p) ih e = covered_after ts (run L p r) ∙ ap (λ x. units_of ts ++ x) (ih p) ∙ sym (append_assoc (units_of ts) (units_in p) r) ∙ ap (λ x. x ++ r) e
      go (stops ts d l) ih e = sym (append_assoc (units_of ts) (d ∷ l) r) ∙ ap (λ x. x ++ r) e

module _ {A : Type 0} (L : Local A Kind) where
  abbrev R : Rules A Kind
  R = rules_by L

  -- the run of a token that goes on, and of one that doesn't
  run_some : (k : Kind) (t : List A) → more_by L k t ≡ true → 0 < length (walk R (some k) t).run
  run_some k [] e = absurd (false≢true e)
  run_some k (c ∷ r) e = let g = ap (λ w. length w.run) (walk_more R (some k) c r e) in omega arith

  run_nothing : (k : Kind) (t : List A) → more_by L k t ≡ false → (walk R (some k) t).run ≡ []
  run_nothing k [] e = ap (λ w. w.run) (walk_nil R (some k))
  run_nothing k (c ∷ r) e = run_ends R (some k) c r e

  more_first : (k : Kind) (t : List A) → goes_first L k t ≡ true → more_by L k t ≡ true
  more_first k [] e = e
  more_first k (c ∷ r) e = rw e

  -- whether a token ends after the units s, where t follows them
  abbrev pub still_ends : List A → List A → Bool
  still_ends s t = ends_after (length s) (reading R (s ++ t)).tokens

  module _ (s t : List A) (ts : List (Tok A Kind)) where
    tokens_by : (q : State A Kind) → run L idle s ≡ moves ts q → (reading R (s ++ t)).tokens ≡ ts ++ (read_from L q t).tokens
    tokens_by q e = ap (λ w. w.tokens) (certain L s t ∙ ap (λ m. meant L m t) e)

    size_by : (q : State A Kind) → run L idle s ≡ moves ts q → length s ≡ length (units_of ts) + length (units_in L q)
    size_by q e = ap length (sym (ap (covered L) (sym e) ∙ run_covers L idle s)) ∙ length-append (units_of ts) (units_in L q)

    still_by : (q : State A Kind) (us : List (Tok A Kind)) → run L idle s ≡ moves ts q → (read_from L q t).tokens ≡ us →
        still_ends s t ≡ ends_after (length s) (ts ++ us)
    still_by q us e f = ap (ends_after (length s)) (tokens_by q e ∙ ap (λ x. ts ++ x) f)

    -- a token under way: one ends there exactly where it doesn't go on
    pub under_parts : (k : Kind) (u : List A) → run L idle s ≡ moves ts (under k u) → 0 < length u → still_ends s t ≡ not (more_by L k t)
    unfolding read_from
    under_parts k u e h = go (more_by L k t) refl
      where
        go : (b : Bool) → more_by L k t ≡ b → still_ends s t ≡ not b
        go true g =
            let w = walk R (some k) t in
            still_by (under k u) _ e refl
            ∙ ends_no (length s) ts (tok k (u ++ w.run)) w.tokens (omega (arith, size_by (under k u) e)) (omega (arith, size_by (under k u) e, length-append u w.run, run_some k t g))
        go false g =
            let w = walk R (some k) t in
            still_by (under k u) _ e refl
            ∙ ends_yes (length s) ts (tok k (u ++ w.run)) w.tokens (omega (arith, size_by (under k u) e, length-append u w.run, ap length (run_nothing k t g)))

    -- a token and a unit after it that waits and begins one: one ends there exactly where neither goes on
    pub held_parts : (k : Kind) (u : List A) (d : A) (j : Kind) → run L idle s ≡ moves ts (held k u d) → L.kind_of d ≡ some j →
        still_ends s t ≡ not (goes_first L k t || more_by L j t)
    unfolding read_from
    held_parts k u d j e f = go (goes_first L k t) refl (more_by L j t) refl
      where
        size : length s ≡ length (units_of ts) + (length u + 1)
        size = size_by (held k u d) e ∙ ap (λ (n : ℕ). length (units_of ts) + n) (length-append u (d ∷ []))

        first : length (units_of (ts ++ tok k u ∷ [])) ≡ length (units_of ts) + length u
        first = ap length (units_append ts (tok k u ∷ [])) ∙ length-append (units_of ts) (u ++ []) ∙ ap (λ x. length (units_of ts) + length x) (append-nil u)

        apart : goes_first L k t ≡ false →
            still_ends s t ≡ ends_after (length s) ((ts ++ tok k u ∷ []) ++ tok j (d ∷ (walk R (some j) t).run) ∷ (walk R (some j) t).tokens)
        apart g =
            let n = ap (λ w. tok k u ∷ w.tokens) (walk_open R none d t j refl f) in
            let r : (read_from L (held k u d) t).tokens ≡ tok k u ∷ tok j (d ∷ (walk R (some j) t).run) ∷ (walk R (some j) t).tokens = rw g n in
            still_by (held k u d) _ e r ∙ ap (ends_after (length s)) (sym (append_assoc ts (tok k u ∷ []) (tok j (d ∷ (walk R (some j) t).run) ∷ (walk R (some j) t).tokens)))

        go : (a : Bool) → goes_first L k t ≡ a → (b : Bool) → more_by L j t ≡ b → still_ends s t ≡ not (a || b)
        go true g b h =
            let w = walk R (some k) t in
            let r : (read_from L (held k u d) t).tokens ≡ tok k ((u ++ d ∷ []) ++ w.run) ∷ w.tokens = rw g in
            let l = length-append (u ++ d ∷ []) w.run ∙ ap (λ (n : ℕ). n + length w.run) (length-append u (d ∷ [])) in
            still_by (held k u d) _ e r
            ∙ ends_no (length s) ts (tok k ((u ++ d ∷ []) ++ w.run)) w.tokens (omega (arith, size)) (omega (arith, size, l, run_some k t (more_first k t g)))
        go false g true h =
            let w = walk R (some j) t in
            apart g ∙ ends_no (length s) (ts ++ tok k u ∷ []) (tok j (d ∷ w.run)) w.tokens (omega (arith, size, first)) (omega (arith, size, first, run_some j t h))
        go false g false h =
            let w = walk R (some j) t in
            apart g ∙ ends_yes (length s) (ts ++ tok k u ∷ []) (tok j (d ∷ w.run)) w.tokens (omega (arith, size, first, ap length (run_nothing j t h)))

    -- nothing under way after some tokens: one ends there
    pub idle_parts : (xs : List (Tok A Kind)) (x : Tok A Kind) → ts ≡ xs ++ x ∷ [] → run L idle s ≡ moves ts idle → still_ends s t ≡ true
    idle_parts xs x f e =
        let n = ap (λ z. length (units_of z)) f ∙ ap length (units_append xs (x ∷ [])) ∙ length-append (units_of xs) (x.units ++ []) ∙ ap (λ z. length (units_of xs) + length z) (append-nil x.units) in
        still_by idle _ e refl ∙ ap (ends_after (length s)) (ap (λ z. z ++ (read_from L idle t).tokens) f ∙ append_assoc xs (x ∷ []) (read_from L idle t).tokens)
        ∙ ends_yes (length s) xs x (read_from L idle t).tokens (omega (arith, size_by idle e, n))
