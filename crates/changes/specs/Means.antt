-- What each answer of the list of changes says of the two images, and what the two buffers then hold, exactly when
-- (docs/RULES.md, "What changed"). `proofs/AnswerLaws.antt` joins this to the answers of `Answer.antt`.
use Rattle.std.specs.Prelude.{ℕ, ◌/◌, ◌≤◌, ◌<◌, List, length, Result, Ok, Err}
use Rattle.std.proofs.Math.Option.{some}
use Rattle.lists.specs.Laid.{laid}
use Rattle.refusal.specs.declared.Refusal.{Refusal}
use Rattle.refusal.specs.declared.Refusal.TheVariants as refusal
use Rattle.image.specs.Check.{range_class, entry_role}
use Rattle.image.specs.Accepted.{Accepted}
use Rattle.image.specs.Means.{RefusalMeans}
use Rattle.image.specs.declared.records.Section.TheVariants.{Ranges, Entries}
use Rattle.pair.specs.declared.PairRefusal.{PairRefusal}
use Rattle.pair.specs.declared.PairRefusal.TheVariants.{Older, Newer, Neither}
use Rattle.changes.specs.Change.{Change, Runs, Singles}
use Rattle.changes.specs.Answer.{change_size, list_words}
use Rattle.changes.specs.declared.Lists.{Lists}

-- two accepted images, the runs of their classes in the ranges, and their changes of roles, one code point each
pub record BothLists (older newer : List ℕ) (runs entries : List Change) : Type 0 where
  pub older_accepted : Accepted older
  pub newer_accepted : Accepted newer
  pub class_runs : Runs (range_class older) (range_class newer) runs
  pub role_changes : Singles (entry_role older) (entry_role newer) entries

-- for a buffer `out` for the runs and a buffer `more` for the entries: the older image's refusal of 1 to 4; then the newer's; then 8
-- with the number of runs; then 8 with that of entries; or both numbers, and each list at its buffer's front
pub data ChangesMeans (older newer out more : List ℕ) : Result Lists PairRefusal → List ℕ → List ℕ → Type 0 where
  bad_older : {r : Refusal} → RefusalMeans older (some r) → ChangesMeans older newer out more (Err (Older r)) out more
  bad_newer : {r : Refusal} → Accepted older → RefusalMeans newer (some r) → ChangesMeans older newer out more (Err (Newer r)) out more
  few_runs :
      {runs entries : List Change} → BothLists older newer runs entries → length out / change_size Ranges < length runs
      → ChangesMeans older newer out more (Err (Neither (refusal.Room (length runs)))) out more
  few_entries :
      {runs entries : List Change} → BothLists older newer runs entries → length runs ≤ length out / change_size Ranges
      → length more / change_size Entries < length entries
      → ChangesMeans older newer out more (Err (Neither (refusal.Room (length entries)))) out more
  both_listed :
      {runs entries : List Change} → BothLists older newer runs entries → length runs ≤ length out / change_size Ranges
      → length entries ≤ length more / change_size Entries
      → ChangesMeans older newer out more (Ok (record { runs = length runs; entries = length entries })) (laid out 0 (list_words Ranges runs))
      (laid more 0 (list_words Entries entries))
