-- The room for the lists of changes, and the answers that it leads to. Assumes nothing.
use Prim.Native.Nat.{ℕ, ◌/◌, ◌≤◌, ◌<◌}
use mathlib.Core.Path.{◌≡◌, sym, ap, ◌∙◌}
use mathlib.Core.List.{List}
use mathlib.Core.Option.{none, some}
use Rattle.std.specs.Prelude.{Result, Ok, Err}
use lib.ListN.{length}
use borrow.Author.Tests.{lt-ltb, le-ltb}
use Rattle.refusal.specs.declared.Refusal.{Refusal}
use Rattle.refusal.specs.declared.Refusal.TheVariants as refusal
use Rattle.image.specs.Check.{refusal_of}
use Rattle.image.specs.declared.records.Section.TheVariants.{Ranges, Entries}
use Rattle.pair.specs.declared.PairRefusal.{PairRefusal}
use Rattle.pair.specs.declared.PairRefusal.TheVariants.{Older, Newer, Neither}
use Rattle.changes.specs.ChangeList.{runs_of, entries_of}
use Rattle.changes.specs.Answer.{change_size, listed_of, buffer_after, answer_within, answer_of, runs_after_within, runs_after, entries_after_within, entries_after}
use Rattle.changes.specs.Walked.{room_by}
use Rattle.changes.specs.declared.Lists.{Lists}

-- there is room for all
pub sufficient : (room count : ℕ) → count ≤ room → Ok tt ≡ room_by room count
sufficient room count l = sym (simp (le-ltb room count l))

-- the answers for two accepted images
module _ (older newer : List ℕ) (words more : ℕ) where
  abbrev runs : ℕ
  runs = length (runs_of older newer)

  abbrev entries : ℕ
  entries = length (entries_of older newer)

  pub lacks_runs : words / change_size Ranges < runs → listed_of older newer words more ≡ Err (Neither (refusal.Room runs))
  unfolding listed_of
  lacks_runs l = simp (lt-ltb _ _ l)

  pub lacks_entries :
      runs ≤ words / change_size Ranges → more / change_size Entries < entries
      → listed_of older newer words more ≡ Err (Neither (refusal.Room entries))
  unfolding listed_of
  lacks_entries l u = simp (le-ltb _ _ l, lt-ltb _ _ u)

  pub lists_both :
      runs ≤ words / change_size Ranges → entries ≤ more / change_size Entries → listed_of older newer words more ≡ Ok (record { runs = runs; entries = entries })
  unfolding listed_of
  lists_both l u = simp (le-ltb _ _ l, le-ltb _ _ u)

  -- the answer, by what the two images are refused with
  pub older_answer : {r : Refusal} → refusal_of older ≡ some r → answer_of older newer words more ≡ Err (Older r)
  unfolding answer_within
  older_answer e = simp e

  pub newer_answer : {r : Refusal} → refusal_of older ≡ none → refusal_of newer ≡ some r → answer_of older newer words more ≡ Err (Newer r)
  unfolding answer_within
  newer_answer e f = simp (e, f)

  pub accepted_answer : refusal_of older ≡ none → refusal_of newer ≡ none → answer_of older newer words more ≡ listed_of older newer words more
  unfolding answer_within
  accepted_answer e f = simp (e, f)

-- the buffers after the call, by its answer
module _ (older newer out more : List ℕ) {c : Result Lists PairRefusal} (e : c ≡ answer_of older newer (length out) (length more)) where
  pub runs_by : {words : List ℕ} → words ≡ buffer_after Ranges older newer c out → words ≡ runs_after older newer out more
  unfolding runs_after_within
  runs_by f = f ∙ ap (λ (d : Result Lists PairRefusal). buffer_after Ranges older newer d out) e

  pub entries_by : {words : List ℕ} → words ≡ buffer_after Entries older newer c more → words ≡ entries_after older newer out more
  unfolding entries_after_within
  entries_by f = f ∙ ap (λ (d : Result Lists PairRefusal). buffer_after Entries older newer d more) e
