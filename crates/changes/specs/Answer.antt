-- What the list of changes answers, and what the two lent buffers then hold (docs/RULES.md, "What changed"; refusals 1 to 4 and 8).
-- `limit` is how many profile entries an image may have; the names without `_within` have the limit in force.
--
--   changes_of                          the list of each section: the runs, or the entries
--   change_words, change_size            the words of a change in a section; how many they are
--   list_words                          the words of a list, one change after the other
--   listed_of                           of two accepted images: 8 for the runs, 8 for the entries, or both numbers
--   changes_by                          refusals 1 to 4 of the two images come first
--   answer_within, answer_of             the answer, with buffers of so many words
--   words_by, buffer_after               what a buffer holds after an answer; that of a section
--   runs_after_within, runs_after         the buffer for the runs after the call
--   entries_after_within, entries_after   the buffer for the entries after the call
use Rattle.std.specs.Prelude.{ℕ, ◌/◌, cond, List, [], ◌∷◌, ◌++◌, length, ltb, Result, Ok, Err}
use Rattle.lists.specs.Laid.{laid}
use Rattle.refusal.specs.declared.Refusal.TheVariants as refusal
use Rattle.image.specs.Limits.{max_entries}
use Rattle.image.specs.Check.{refusal_within}
use Rattle.image.specs.declared.records.Section.{Section}
use Rattle.image.specs.declared.records.Section.TheVariants.{Ranges, Entries}
use Rattle.pair.specs.declared.PairRefusal.{PairRefusal}
use Rattle.pair.specs.declared.PairRefusal.TheVariants.{Neither}
use Rattle.pair.specs.Judged.{judged_by}
use Rattle.changes.specs.Change.{Change}
use Rattle.changes.specs.ChangeList.{runs_of, entries_of}
use Rattle.changes.specs.declared.Lists.{Lists}

abbrev pub changes_of : Section → List ℕ → List ℕ → List Change
changes_of Ranges = runs_of
changes_of Entries = entries_of

-- of a run first, last, older class, newer class; of an entry code point, older role, newer role
abbrev pub change_words : Section → Change → List ℕ
change_words Ranges c = c.first ∷ c.last ∷ c.older ∷ c.newer ∷ []
change_words Entries c = c.first ∷ c.older ∷ c.newer ∷ []

abbrev pub change_size : Section → ℕ
change_size Ranges = 4
change_size Entries = 3

abbrev pub list_words : Section → List Change → List ℕ
list_words section [] = []
list_words section (c ∷ l) = change_words section c ++ list_words section l

-- 8 carries the records needed
unfoldable pub listed_of : List ℕ → List ℕ → ℕ → ℕ → Result Lists PairRefusal
listed_of older newer run_words entry_words =
    let runs = length (runs_of older newer) in
    let entries = length (entries_of older newer) in
    cond (ltb (run_words / change_size Ranges) runs) (Err (Neither (refusal.Room runs)))
    (cond (ltb (entry_words / change_size Entries) entries) (Err (Neither (refusal.Room entries)))
    (Ok (record { runs = runs; entries = entries })))

abbrev pub changes_by : Result (Unit {0}) PairRefusal → Result Lists PairRefusal → Result Lists PairRefusal
changes_by (Err r) c = Err r
changes_by (Ok _) c = c

unfoldable pub answer_within : ℕ → List ℕ → List ℕ → ℕ → ℕ → Result Lists PairRefusal
answer_within limit older newer run_words entry_words =
    changes_by (judged_by (refusal_within limit older) (refusal_within limit newer)) (listed_of older newer run_words entry_words)

abbrev pub answer_of : List ℕ → List ℕ → ℕ → ℕ → Result Lists PairRefusal
answer_of older newer run_words entry_words = answer_within max_entries older newer run_words entry_words

-- the list at its front, and past it what was there; a refusal leaves it as it was
abbrev pub words_by : Result Lists PairRefusal → List ℕ → List ℕ → List ℕ
words_by (Err _) out words = out
words_by (Ok _) out words = laid out 0 words

abbrev pub buffer_after : Section → List ℕ → List ℕ → Result Lists PairRefusal → List ℕ → List ℕ
buffer_after section older newer answer out = words_by answer out (list_words section (changes_of section older newer))

-- the buffer for the runs was `out`, that for the entries `more`
unfoldable pub runs_after_within : ℕ → List ℕ → List ℕ → List ℕ → List ℕ → List ℕ
runs_after_within limit older newer out more = buffer_after Ranges older newer (answer_within limit older newer (length out) (length more)) out

abbrev pub runs_after : List ℕ → List ℕ → List ℕ → List ℕ → List ℕ
runs_after older newer out more = runs_after_within max_entries older newer out more

unfoldable pub entries_after_within : ℕ → List ℕ → List ℕ → List ℕ → List ℕ → List ℕ
entries_after_within limit older newer out more = buffer_after Entries older newer (answer_within limit older newer (length out) (length more)) more

abbrev pub entries_after : List ℕ → List ℕ → List ℕ → List ℕ → List ℕ
entries_after older newer out more = entries_after_within max_entries older newer out more
