-- Inner: no public statement cites this file.
-- The first token of a text (docs/RULES.md, "Tokens", one token at a place).
use Rattle.std.specs.Prelude.{ℕ, List, [], ◌∷◌}
use Rattle.utf8.specs.declared.Step.{Step}
use Rattle.utf8.specs.declared.Step.TheVariants as step
use Rattle.utf8.specs.Head.{step_of}
use Rattle.utf8.specs.Text.{Character}
use Rattle.grammar.specs.Scan.{Tok}
use Rattle.grammar.specs.Grammar.{Kind, identifier}
use Rattle.grammar.specs.Kinds.{kind_number}
use Rattle.grammar.specs.Record.{token_width}
use Rattle.grammar.specs.Reading.{tokens_of}
use Rattle.turns.specs.Turns.{Phase, nothing, within, waits, phase_named}
use Rattle.turns.specs.declared.First.{First}
use Rattle.turns.specs.declared.First.TheVariants.{Nothing, IllFormed, NoToken, Token}

abbrev pub first_in : List (Tok Character Kind) → First
first_in [] = NoToken
first_in (t ∷ ts) = Token (kind_number t.kind) (token_width t)

abbrev pub first_by : List (Tok Character Kind) → Step → First
first_by ts (step.Scalar x n) = first_in ts
first_by ts (step.IllFormed n) = IllFormed
first_by ts step.End = Nothing

-- the first token, where it is complete at a place: the one under way, up to there or to the medial that waits
abbrev pub pending_by : Phase → ℕ → ℕ → First
pending_by nothing mid at = NoToken
pending_by (within k) mid at = Token (kind_number k) at
pending_by waits mid at = Token (kind_number identifier) mid

unfoldable pub pending_first : ℕ → ℕ → ℕ → First
pending_first state mid at = pending_by (phase_named state) mid at

-- by what stands at the front: nothing, an ill-formed place, or a character; then the first token of the text, if one begins there
unfoldable pub first_of : List ℕ → List ℕ → First
first_of s text = first_by (tokens_of s text) (step_of text)
