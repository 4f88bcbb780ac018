-- The one-pass reader, unit by unit, and that it loses no unit. Assumes nothing.
use mathlib.Core.Path.{◌≡◌, refl, sym, ◌∙◌, ap}
use mathlib.Core.Bool.{Bool, true, false}
use mathlib.Core.List.{List, [], ◌∷◌, ◌++◌, append_assoc}
use mathlib.Core.Option.{Option, none, some}
use lib.ListN.{length, drop}
use Rattle.grammar.specs.Scan.{Rules, units_of, grown, opened, stopped, goes, walk, reading}

module _ {A K : Type 0} (R : Rules A K) where
  pub walk_nil : (k : Option K) → walk R k [] ≡ stopped []
  unfolding walk
  walk_nil k = refl

  -- the token under way goes on
  pub walk_more : (k : Option K) (c : A) (r : List A) → goes R k (c ∷ r) ≡ true → walk R k (c ∷ r) ≡ grown c (walk R k r)
  unfolding walk
  walk_more k c r e = rw e

  -- it doesn't, and no token begins
  pub walk_stop : (k : Option K) (c : A) (r : List A) → goes R k (c ∷ r) ≡ false → R.kind_of c ≡ none → walk R k (c ∷ r) ≡ stopped (c ∷ r)
  unfolding walk
  walk_stop k c r e f = rw (e, f)

  -- it doesn't, and a token of kind j begins
  pub walk_open : (k : Option K) (c : A) (r : List A) (j : K) → goes R k (c ∷ r) ≡ false → R.kind_of c ≡ some j →
      walk R k (c ∷ r) ≡ opened j c (walk R (some j) r)
  unfolding walk
  walk_open k c r j e f = rw (e, f)

  -- where the token under way doesn't go on, the reading is that of a text of its own
  pub walk_ends : (k : Option K) (c : A) (r : List A) → goes R k (c ∷ r) ≡ false → walk R k (c ∷ r) ≡ reading R (c ∷ r)
  walk_ends k c r e = go (R.kind_of c) refl
    where
      go : (o : Option K) → R.kind_of c ≡ o → walk R k (c ∷ r) ≡ reading R (c ∷ r)
      go none f = walk_stop k c r e f ∙ sym (walk_stop none c r refl f)
      go (some j) f = walk_open k c r j e f ∙ sym (walk_open none c r j refl f)

  pub run_none : (s : List A) → (reading R s).run ≡ []
  run_none [] = ap (λ w. w.run) (walk_nil none)
  run_none (c ∷ r) = go (R.kind_of c) refl
    where
      go : (o : Option K) → R.kind_of c ≡ o → (reading R (c ∷ r)).run ≡ []
      go none f = ap (λ w. w.run) (walk_stop none c r refl f)
      go (some j) f = ap (λ w. w.run) (walk_open none c r j refl f)

  pub run_ends : (k : Option K) (c : A) (r : List A) → goes R k (c ∷ r) ≡ false → (walk R k (c ∷ r)).run ≡ []
  run_ends k c r e = ap (λ w. w.run) (walk_ends k c r e) ∙ run_none (c ∷ r)

  -- after the token under way comes the reading of what is left of the text
  abbrev Resumed : Option K → List A → Type 0
  Resumed k s =
      let u = (walk R k s).run in
      let w = reading R (drop (length u) s) in
      walk R k s ≡ record { run = u; tokens = w.tokens; left = w.left }

  pub after_run : (k : Option K) (s : List A) → Resumed k s
  after_run k [] = rw (walk_nil k, walk_nil none)
  after_run k (c ∷ r) = go (after_run k r) (goes R k (c ∷ r)) refl
    where
      go : Resumed k r → (b : Bool) → goes R k (c ∷ r) ≡ b → Resumed k (c ∷ r)
      go ih true e = rw (walk_more k c r e) (ap (grown c) ih)
      go ih false e = rw (walk_ends k c r e, run_none (c ∷ r))

  -- the run, the tokens' units and what is left are the text
  abbrev Covered : Option K → List A → Type 0
  Covered k s = s ≡ (walk R k s).run ++ (units_of (walk R k s).tokens ++ (walk R k s).left)

  covers : (k : Option K) (s : List A) → Covered k s
  covers k [] = rw (walk_nil k)
  covers k (c ∷ r) = go (covers k r) (λ j. covers (some j) r) (goes R k (c ∷ r)) refl (R.kind_of c) refl
    where
      go : Covered k r → ((j : K) → Covered (some j) r) → (b : Bool) → goes R k (c ∷ r) ≡ b → (o : Option K) → R.kind_of c ≡ o → Covered k (c ∷ r)
      go here there true e o f = rw (walk_more k c r e) (ap (λ x. c ∷ x) here)
      go here there false e none f = rw (walk_stop k c r e f)
      go here there false e (some j) f =
          let w = walk R (some j) r in
          rw (walk_open k c r j e f) (ap (λ x. c ∷ x) (there j ∙ sym (append_assoc w.run (units_of w.tokens) w.left)))

  pub reading_covers : (s : List A) → s ≡ units_of (reading R s).tokens ++ (reading R s).left
  reading_covers s = covers none s ∙ ap (λ x. x ++ (units_of (reading R s).tokens ++ (reading R s).left)) (run_none s)
