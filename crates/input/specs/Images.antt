-- Two images one right after the other, as the change lister reads them (docs/RULES.md, "The programs").
-- `limit` is how many profile entries an image may have; the names without `_within` have the limit in force.
use Rattle.std.specs.Prelude.{ℕ, ◌+◌, ◌-◌, ◌*◌, List, Result, Err}
use Rattle.refusal.specs.declared.Refusal.TheVariants as refusal
use Rattle.image.specs.Limits.{max_ranges, max_entries}
use Rattle.image.specs.declared.records.Section.TheVariants.{Ranges, Entries}
use Rattle.pair.specs.declared.PairRefusal.{PairRefusal}
use Rattle.pair.specs.declared.PairRefusal.TheVariants.{Older}
use Rattle.changes.specs.Answer.{change_size, answer_within, runs_after_within, entries_after_within}
use Rattle.changes.specs.Means.{ChangesMeans}
use Rattle.changes.specs.declared.Lists.{Lists}
use Rattle.input.specs.Front.{image_in, rest_in, front_within as older_within, after_within as newer_within, ComesWhole}

-- the most words that the runs and the entries can need
abbrev pub max_run_words : ℕ
max_run_words = change_size Ranges * (2 * (max_ranges + max_ranges) - 1)

abbrev pub max_entry_words_within : ℕ → ℕ
max_entry_words_within limit = change_size Entries * (limit + limit)

abbrev pub max_entry_words : ℕ
max_entry_words = max_entry_words_within max_entries

-- the answer, with buffers of so many words
abbrev pub answer_from_within : ℕ → List ℕ → ℕ → ℕ → Result Lists PairRefusal
answer_from_within limit input words more = answer_within limit (older_within limit input) (newer_within limit input) words more

abbrev pub answer_from : List ℕ → ℕ → ℕ → Result Lists PairRefusal
answer_from input words more = answer_from_within max_entries input words more

-- the two buffers after the call, which were `out` and `more`
abbrev pub runs_from_within : ℕ → List ℕ → List ℕ → List ℕ → List ℕ
runs_from_within limit input out more = runs_after_within limit (older_within limit input) (newer_within limit input) out more

abbrev pub runs_from : List ℕ → List ℕ → List ℕ → List ℕ
runs_from input out more = runs_from_within max_entries input out more

abbrev pub entries_from_within : ℕ → List ℕ → List ℕ → List ℕ → List ℕ
entries_from_within limit input out more = entries_after_within limit (older_within limit input) (newer_within limit input) out more

abbrev pub entries_from : List ℕ → List ℕ → List ℕ → List ℕ
entries_from input out more = entries_from_within max_entries input out more

-- the program's answer: there is room for the most changes
unfoldable pub whole_answer_within : ℕ → List ℕ → Result Lists PairRefusal
whole_answer_within limit input = answer_from_within limit input max_run_words (max_entry_words_within limit)

abbrev pub whole_answer : List ℕ → Result Lists PairRefusal
whole_answer input = whole_answer_within max_entries input

-- what each answer means, and what the two buffers then hold, which were `out` and `more`: 1 of an older image that doesn't come whole,
-- and the buffers as they were; or what the image at the front gives with the one after it
pub data ChangeListingMeans (input out more : List ℕ) : Result Lists PairRefusal → List ℕ → List ℕ → Type 0 where
  cut_off : (ComesWhole input → ⊥) → ChangeListingMeans input out more (Err (Older refusal.Length)) out more
  whole :
      {c : Result Lists PairRefusal} {words others : List ℕ} → ComesWhole input → ChangesMeans (image_in input) (rest_in input) out more c words others
      → ChangeListingMeans input out more c words others
