-- What counting answers (docs/RULES.md, "Tokens" and "Named refusals").
use Rattle.std.specs.Prelude.{ℕ, ◌+◌, List, length, Result, Ok, Err}
use Rattle.utf8.specs.Text.{Form}
use Rattle.refusal.specs.declared.Refusal.{Refusal}
use Rattle.refusal.specs.declared.Refusal.TheVariants as refusal
use Rattle.refusal.specs.Outcome.{Outcome, given, refused, outcome_map}
use Rattle.grammar.specs.Reading.{read_through}

-- the enum's case for each outcome
abbrev pub counted_by : Outcome ℕ → Result ℕ Refusal
counted_by (given n) = Ok n
counted_by (refused r) = Err r

-- the answer of counting a text within the length limit under an accepted image
unfoldable pub count_through : List ℕ → List ℕ → Result ℕ Refusal
count_through s text = counted_by (outcome_map length (read_through s text))

-- the refusal where no sequence or no token begins at a place: 6 comes first, if the text from there on has an ill-formed place
abbrev pub stop_refusal : ℕ → Form → Refusal
stop_refusal at (Ok u) = refusal.Characters at
stop_refusal at (Err e) = refusal.IllFormed (at + e.place) e.len
