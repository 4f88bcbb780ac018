-- Inner: no public statement cites this file.
-- The words that an answer of a lister comes with lie in the buffers.
use Rattle.refusal.specs.declared.Refusal.{Refusal}
use Rattle.std.specs.Prelude.{ℕ, ◌*◌, ◌≤◌, List, length, Result, Ok, Err}
use Rattle.image.specs.declared.records.Section.TheVariants.{Ranges, Entries}
use Rattle.grammar.specs.Record.{record_size}
use Rattle.changes.specs.Answer.{change_size}
use Rattle.pair.specs.declared.PairRefusal.{PairRefusal}
use Rattle.changes.specs.declared.Lists.{Lists}

abbrev pub TokensFit : Result ℕ Refusal → List ℕ → Type 0
TokensFit (Err r) words = Unit {0}
TokensFit (Ok n) words = record_size * n ≤ length words

abbrev pub ChangesFit : Result Lists PairRefusal → List ℕ → List ℕ → Type 0
ChangesFit (Err r) runs entries = Unit {0}
ChangesFit (Ok l) runs entries = (change_size Ranges * l.runs ≤ length runs) × (change_size Entries * l.entries ≤ length entries)
