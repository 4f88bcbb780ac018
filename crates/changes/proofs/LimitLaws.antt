-- The list of changes depends on the number of profile entries that are allowed through the images' refusals alone. Assumes nothing.
use Prim.Native.Nat.{ℕ}
use mathlib.Core.Path.{◌≡◌, ap}
use mathlib.Core.List.{List}
use mathlib.Core.Option.{Option}
use Rattle.std.specs.Prelude.{Result}
use lib.ListN.{length}
use Rattle.refusal.specs.declared.Refusal.{Refusal}
use Rattle.image.specs.Check.{refusal_within}
use Rattle.image.specs.declared.records.Section.TheVariants.{Ranges, Entries}
use Rattle.pair.specs.declared.PairRefusal.{PairRefusal}
use Rattle.pair.specs.Judged.{judged_by}
use Rattle.changes.specs.Answer.{listed_of, changes_by, buffer_after, answer_within, runs_after_within, entries_after_within}
use Rattle.changes.specs.declared.Lists.{Lists}

module _ (limit : ℕ) (older newer : List ℕ) (o p : Option Refusal) (e : refusal_within limit older ≡ o) (f : refusal_within limit newer ≡ p) where
  abbrev answer : ℕ → ℕ → Result Lists PairRefusal
  answer words more = changes_by (judged_by o p) (listed_of older newer words more)

  pub answer_by : (words more : ℕ) → answer_within limit older newer words more ≡ changes_by (judged_by o p) (listed_of older newer words more)
  unfolding answer_within
  answer_by words more = λ d. changes_by (judged_by (e d) (f d)) (listed_of older newer words more)

  -- the two buffers
  pub runs_are : (out more : List ℕ) → runs_after_within limit older newer out more ≡ buffer_after Ranges older newer (answer (length out) (length more)) out
  unfolding runs_after_within
  runs_are out more = ap (λ (c : Result Lists PairRefusal). buffer_after Ranges older newer c out) (answer_by (length out) (length more))

  pub entries_are : (out more : List ℕ) → entries_after_within limit older newer out more ≡ buffer_after Entries older newer (answer (length out) (length more)) more
  unfolding entries_after_within
  entries_are out more = ap (λ (c : Result Lists PairRefusal). buffer_after Entries older newer c more) (answer_by (length out) (length more))
