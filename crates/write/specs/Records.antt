-- Inner: no public statement cites this file.
-- Records made from the starts of tokens, and the line ends that a token may hold.
use Rattle.std.specs.Prelude.{ℕ, zero, suc, ◌+◌, ◌*◌, ◌/◌, ◌≤◌, ◌≡◌, true, List, [], ◌∷◌, ◌++◌, ◌⊎◌, length, take, get_or, Ok}
use Rattle.utf8.specs.Text.{Character, characters_at, width_of}
use Rattle.line.specs.Line.{is_line_end, LineAt}
use Rattle.lists.specs.Writing.{Writing}
use Rattle.grammar.specs.Counted.{count_through}
use Rattle.grammar.specs.Record.{Record, record_size, record_words, records_from, tokens_width}
use Rattle.grammar.specs.Before.{max_text}
use Rattle.grammar.specs.Reading.{tokens_of}
use Rattle.character.specs.Traits.{token_traits}
use Rattle.turns.specs.Starts.{Started}
use Rattle.write.specs.declared.Written.{Written}

-- the words of record number k; none past the last
abbrev pub words_at : List Record → ℕ → List ℕ
words_at [] k = []
words_at (r ∷ rs) zero = record_words r
words_at (r ∷ rs) (suc k) = words_at rs k

unfoldable pub record_at : List ℕ → List ℕ → ℕ → List ℕ
record_at s text k = words_at (records_from text 0 (tokens_of s text)) k

-- line ends stand in no token but those of line ends: they begin none and go on with none, or are White and no medial
abbrev pub Apart : ℕ → Type 0
Apart t = (t ≡ 0) ⊎ ((t ≡ 5) ⊎ (t ≡ 6))

abbrev pub Plain : List ℕ → Type 0
Plain s = (x : ℕ) → is_line_end x ≡ true → Apart (token_traits s x)

-- characters of a text from one place to another
pub record Spans (text : List ℕ) (start end : ℕ) : Type 0 where
  pub units : List Character
  pub parted : characters_at text start ≡ units ++ characters_at text end
  pub wide : end ≡ start + width_of units

-- a text that is accepted, of `total` tokens, whose records have room
pub record Listing (s text out : List ℕ) (total : ℕ) : Type 0 where
  pub counted : count_through s text ≡ Ok total
  pub short : length text ≤ max_text
  pub room : record_size * total ≤ length out

-- the byte after the first k tokens
abbrev pub place_after : List ℕ → List ℕ → ℕ → ℕ
place_after s text k = tokens_width (take k (tokens_of s text))

-- the starts of n tokens from number `done` on, and where the last of them ends
pub record Piece (s text starts : List ℕ) (done n total : ℕ) : Type 0 where
  pub started : Started s text starts done n
  pub ended : get_or starts n 0 / 16 ≡ place_after s text (done + n)
  pub few : done + n ≤ total

-- `done` records are written, and the line is that of the byte after them
pub record WrittenTo (s text : List ℕ) (done : ℕ) (r : Written) : Type 0 where
  pub words : r.w ≡ record_size * done
  pub lined : LineAt text (place_after s text done) r.line

-- n records more stand in the buffer, if those before them do
abbrev pub Wrote : List ℕ → List ℕ → List ℕ → List ℕ → ℕ → ℕ → ℕ → Type 0
Wrote s text out after done n total =
    (before : List ℕ) → Writing (record_at s text) record_size total before out done → Writing (record_at s text) record_size total before after (done + n)
