-- Token records and the words that are written for them (docs/RULES.md, "Tokens" and "Lines").
use Rattle.std.specs.Prelude.{ℕ, ◌+◌, ◌/◌, List, [], ◌∷◌, ◌++◌}
use Rattle.utf8.specs.Text.{Character, width_of}
use Rattle.line.specs.Line.{line_of}
use Rattle.grammar.specs.Scan.{Tok}
use Rattle.grammar.specs.Grammar.{Kind}
use Rattle.grammar.specs.Kinds.{kind_number}

-- a token's kind, its first byte, one past its last, and the line of its first byte
pub record Record : Type 0 where
  pub kind : Kind
  pub start : ℕ
  pub end : ℕ
  pub line : ℕ

-- the words of a token: the number of its kind, its places, its line; and how many they are
abbrev pub token_words : ℕ → ℕ → ℕ → ℕ → List ℕ
token_words kind start end line = kind ∷ start ∷ end ∷ line ∷ []

abbrev pub record_words : Record → List ℕ
record_words r = token_words (kind_number r.kind) r.start r.end r.line

abbrev pub record_size : ℕ
record_size = 4

-- the records that a buffer of so many words has room for
abbrev pub room_of : ℕ → ℕ
room_of words = words / record_size

-- the bytes of a token, and of tokens
abbrev pub token_width : Tok Character Kind → ℕ
token_width t = width_of t.units

abbrev pub tokens_width : List (Tok Character Kind) → ℕ
tokens_width [] = 0
tokens_width (t ∷ ts) = token_width t + tokens_width ts

-- the records of tokens of a text that begin at byte p, one after the other
abbrev pub records_from : List ℕ → ℕ → List (Tok Character Kind) → List Record
records_from text p [] = []
records_from text p (t ∷ ts) =
    let e = p + token_width t in
    record { kind = t.kind; start = p; end = e; line = line_of text p } ∷ records_from text e ts

abbrev pub words_of : List Record → List ℕ
words_of [] = []
words_of (r ∷ rs) = record_words r ++ words_of rs

-- the list of a text's tokens
abbrev pub listed_words : List ℕ → List (Tok Character Kind) → List ℕ
listed_words text ts = words_of (records_from text 0 ts)
