-- The list of changes, number by number (docs/RULES.md, "What changed"). `proofs/ChangeListLaws.antt` joins it to `Change.antt`.
use Rattle.std.specs.Prelude.{ℕ, zero, suc, ◌+◌, Bool, true, false, ◌&&◌, cond, List, [], ◌∷◌, eqb}
use Rattle.image.specs.Check.{range_class, entry_role}
use Rattle.pair.specs.Walk.{code_points}
use Rattle.changes.specs.Change.{Change}

-- the first change of a list, begun at x
abbrev pub begun_at : ℕ → List Change → List Change
begun_at x [] = []
begun_at x (c ∷ l) = record { first = x; last = c.last; older = c.older; newer = c.newer } ∷ l

module _ (f g : ℕ → ℕ) where
  -- x + 1 has the two values of x
  unfoldable pub goes_on : ℕ → Bool
  goes_on x = eqb (f (x + 1)) (f x) && eqb (g (x + 1)) (g x)

  -- x by itself
  abbrev pub only : ℕ → Change
  only x = record { first = x; last = x; older = f x; newer = g x }

  -- the changes from x on, by those after x: the same where x's two values are equal; else x begins the first of them, where
  -- x + 1 has the same two values and they are listed as runs; else x is one more
  abbrev pub with_number : Bool → ℕ → List Change → List Change
  with_number runs x l = cond (eqb (f x) (g x)) l (cond (runs && goes_on x) (begun_at x l) (only x ∷ l))

  -- the changes of k numbers from x on; `runs` says whether neighbours with the same two values are one change
  unfoldable pub changes_from : Bool → ℕ → ℕ → List Change
  changes_from runs zero x = []
  changes_from runs (suc k) x = with_number runs x (changes_from runs k (suc x))

-- the runs of scalar values whose class in the ranges differs
unfoldable pub runs_of : List ℕ → List ℕ → List Change
runs_of older newer = changes_from (range_class older) (range_class newer) true code_points 0

-- the profile entries that were added, removed or given another role, 0 for none
unfoldable pub entries_of : List ℕ → List ℕ → List Change
entries_of older newer = changes_from (entry_role older) (entry_role newer) false code_points 0
