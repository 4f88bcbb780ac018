-- The list of changes as the walk over two images finds it, from overlap to overlap. Assumes nothing.
use Prim.Native.Nat.{ℕ, ◌+◌, ◌-◌, ◌≤◌}
use mathlib.Core.Path.{◌≡◌, sym, ap, ◌∙◌}
use mathlib.Core.Bool.{Bool, true, false, true≢false, false≢true}
use mathlib.Core.List.{List, [], ◌∷◌}
use native.Mathlib.Omega.{arith}
use Rattle.utf8.specs.Scalar.{is_scalar}
use Rattle.image.specs.declared.records.Section.{Section}
use Rattle.image.specs.declared.records.Section.TheVariants.{Ranges, Entries}
use Rattle.image.specs.Records.{section_class}
use Rattle.image.proofs.SectionLaws.{range_class_lem, entry_role_lem}
use Rattle.pair.specs.declared.walk.Overlap.{Overlap}
use Rattle.pair.specs.Walk.{code_points, StopsBoth, OverlapOf}
use Rattle.pair.proofs.OverlapLaws.{none_scalar, older_accepted, newer_accepted}
use Rattle.changes.specs.Change.{Change, Alone}
use Rattle.changes.specs.ChangeList.{changes_from, runs_of, entries_of}
use Rattle.changes.specs.Answer.{changes_of}
use Rattle.changes.specs.Walked.{change_of}
use Rattle.changes.proofs.ChangeListLaws.{Rest, rest_cons, rest_before, rest_one, is_changed, listed}

-- whether neighbours with the same two values are one change: in the ranges they are, in the entries not
abbrev are_runs : Section → Bool
are_runs Ranges = true
are_runs Entries = false

-- the changes of the code points from x on
unfoldable pub rest_of : Section → List ℕ → List ℕ → ℕ → List Change
rest_of section older newer x = changes_from (section_class older section) (section_class newer section) (are_runs section) (code_points - x) x

-- the whole list
pub whole_list : (section : Section) (older newer : List ℕ) → rest_of section older newer 0 ≡ changes_of section older newer
unfolding rest_of runs_of entries_of
whole_list Ranges older newer =
    let z : code_points - 0 ≡ code_points = omega arith in
    λ i. changes_from (λ x. sym (range_class_lem older x) i) (λ x. sym (range_class_lem newer x) i) true (z i) 0
whole_list Entries older newer =
    let z : code_points - 0 ≡ code_points = omega arith in
    λ i. changes_from (λ x. sym (entry_role_lem older x) i) (λ x. sym (entry_role_lem newer x) i) false (z i) 0

-- past the last code point there is nothing
pub rest_none : (section : Section) (older newer : List ℕ) (x : ℕ) → code_points ≤ x → rest_of section older newer x ≡ []
unfolding rest_of changes_from
rest_none section older newer x l =
    let z : code_points - x ≡ 0 = omega arith in
    ap (λ (k : ℕ). changes_from (section_class older section) (section_class newer section) (are_runs section) k x) z

module _ {section : Section} {older newer : List ℕ} {r : Overlap} (o : OverlapOf older newer section r) where
  none_older : (x : ℕ) → is_scalar x ≡ false → section_class older section x ≡ 0
  none_older = none_scalar older (older_accepted o) section

  none_newer : (x : ℕ) → is_scalar x ≡ false → section_class newer section x ≡ 0
  none_newer = none_scalar newer (newer_accepted o) section

  is_rest : (x : ℕ) → Rest (section_class older section) (section_class newer section) (are_runs section) x (rest_of section older newer x)
  unfolding rest_of
  is_rest x = listed _ _ none_older none_newer (are_runs section) (code_points - x) x (omega arith)

  -- where the two classes are the same, nothing is listed
  pub rest_same : r.older.class ≡ r.newer.class → rest_of section older newer r.first ≡ rest_of section older newer (r.last + 1)
  rest_same e =
      rest_one _ _ (is_rest r.first)
      (rest_before (omega (arith, o.from)) (λ y l u. o.older_same y l (omega arith) ∙ e ∙ sym (o.newer_same y l (omega arith))) (is_rest (r.last + 1)))

  -- where they differ, the overlap is a change
  pub rest_change :
      (r.older.class ≡ r.newer.class → ⊥) → rest_of section older newer r.first ≡ change_of r ∷ rest_of section older newer (r.last + 1)
  rest_change d =
      rest_one _ _ (is_rest r.first)
      (rest_cons {c = change_of r}
      (is_changed _ _ none_older none_newer o.from
      (λ x k. (o.older_same x k.from k.to, o.newer_same x k.from k.to)) d)
      (whole section (o.stops d)) (alone section (o.stops d)) (is_rest (r.last + 1)))
    where
      whole : (section : Section) → StopsBoth older newer section r → are_runs section ≡ true
          → (section_class older section (r.last + 1) ≡ r.older.class) × (section_class newer section (r.last + 1) ≡ r.newer.class) → ⊥
      whole Ranges s e (p, q) = s p q
      whole Entries s e h = false≢true e

      alone : (section : Section) → StopsBoth older newer section r → are_runs section ≡ false → Alone (change_of r)
      alone Ranges s e = absurd (true≢false e)
      alone Entries s e = sym s
