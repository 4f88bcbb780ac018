-- Inner: no public statement cites this file.
-- Where tokens start, as numbers: 16 times the first byte, and traits of a character that begins such a token.
use Rattle.std.specs.Prelude.{ℕ, ◌+◌, ◌/◌, ◌%◌, ◌<◌, ◌≡◌, List, ◌∷◌, ◌++◌, length, get_or}
use Rattle.utf8.specs.Text.{Character}
use Rattle.grammar.specs.Scan.{Tok}
use Rattle.grammar.specs.Grammar.{Kind}
use Rattle.grammar.specs.Kinds.{kind_number}
use Rattle.grammar.specs.Record.{tokens_width}
use Rattle.grammar.specs.Reading.{tokens_of}
use Rattle.turns.specs.Turns.{after_of}

-- c is the start of token number k of a text's reading
pub record StartOf (s text : List ℕ) (k c : ℕ) : Type 0 where
  pub front : List (Tok Character Kind)
  pub token : Tok Character Kind
  pub back : List (Tok Character Kind)
  pub parted : tokens_of s text ≡ front ++ token ∷ back
  pub number : length front ≡ k
  pub place : c / 16 ≡ tokens_width front
  pub kind : after_of (c % 16) ≡ kind_number token.kind

-- the first n of `starts` are the starts of the tokens from number `done` on
pub record Started (s text starts : List ℕ) (done n : ℕ) : Type 0 where
  pub each : (i : ℕ) → i < n → StartOf s text (done + i) (get_or starts i 0)
