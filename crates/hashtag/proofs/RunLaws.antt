-- Runs of hashtag Continue, and the hashtags that begin at the first of some characters or after it. Assumes nothing.
use Prim.Native.Nat.{ℕ, ◌≤◌}
use mathlib.Core.Path.{◌≡◌, refl, sym, ap, subst, ◌∙◌}
use mathlib.Core.Bool.{Bool, true, false, cond}
use mathlib.Core.List.{List, [], ◌∷◌, ◌++◌}
use native.Mathlib.Omega.{arith}
use lib.ListN.{length, drop}
use Rattle.utf8.specs.Text.{Character}
use Rattle.grammar.specs.All.{All}
use Rattle.hashtag.specs.Hashtag.{HashtagIdentifier}
use Rattle.hashtag.specs.Sign.{continues, IsSign, IsContinue}
use Rattle.hashtag.specs.Find.{run_of}

abbrev pub Characters : Type 0
Characters = List Character

module _ (s : List ℕ) where
  abbrev pub Identifier : Characters → Type 0
  Identifier u = HashtagIdentifier IsSign (IsContinue s) u

  pub run_yes : (c : Character) (r : Characters) → continues s c ≡ true → run_of s (c ∷ r) ≡ c ∷ run_of s r
  unfolding run_of
  run_yes c r e = rw e

  pub run_no : (c : Character) (r : Characters) → continues s c ≡ false → run_of s (c ∷ r) ≡ []
  unfolding run_of
  run_no c r e = rw e

  pub run_none : run_of s [] ≡ []
  unfolding run_of
  run_none = refl

  -- a run is hashtag Continue, begins the characters, and is at least as long as any other that does
  pub run_continues : (cs : Characters) → All (IsContinue s) (run_of s cs)
  run_continues [] = subst (All (IsContinue s)) (sym run_none) tt
  run_continues (c ∷ r) = go (continues s c) refl (run_continues r)
    where
      go : (b : Bool) → continues s c ≡ b → All (IsContinue s) (run_of s r) → All (IsContinue s) (run_of s (c ∷ r))
      go true e h = subst (All (IsContinue s)) (sym (run_yes c r e)) (e, h)
      go false e h = subst (All (IsContinue s)) (sym (run_no c r e)) tt

  pub after_run : Characters → Characters
  unfolding run_of
  after_run cs = drop (length (run_of s cs)) cs

  pub run_after : (cs : Characters) → cs ≡ run_of s cs ++ after_run cs
  unfolding after_run run_of
  run_after [] = refl
  run_after (c ∷ r) = go (continues s c) (run_after r)
    where
      go : (b : Bool) → r ≡ run_of s r ++ drop (length (run_of s r)) r → c ∷ r ≡ cond b (c ∷ run_of s r) [] ++ drop (length (cond b (c ∷ run_of s r) [])) (c ∷ r)
      go true h = ap (λ (l : Characters). c ∷ l) h
      go false h = refl

  pub run_longest : (xs w : Characters) → All (IsContinue s) xs → length xs ≤ length (run_of s (xs ++ w))
  run_longest [] w a = omega arith
  run_longest (x ∷ xs) w a = let l = ap length (run_yes x (xs ++ w) a.0) in omega (arith, run_longest xs w a.1)

  pub run_append : (xs w : Characters) → All (IsContinue s) xs → run_of s (xs ++ w) ≡ xs ++ run_of s w
  run_append [] w a = refl
  run_append (x ∷ xs) w a = run_yes x (xs ++ w) a.0 ∙ ap (λ (l : Characters). x ∷ l) (run_append xs w a.1)
