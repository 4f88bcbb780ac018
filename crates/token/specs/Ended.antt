-- Inner: no public statement cites this file.
-- The starts of the last tokens of a text, where the text is accepted.
use Rattle.std.specs.Prelude.{ℕ, ◌+◌, ◌≡◌, List, Ok}
use Rattle.grammar.specs.Counted.{count_through}
use Rattle.write.specs.Records.{Piece}

-- n of them from number `done` on are all, and where the text ends is marked after them
pub record Ended (s text starts : List ℕ) (done n : ℕ) : Type 0 where
  pub piece : (total : ℕ) → count_through s text ≡ Ok total → Piece s text starts done n total
  pub all : (total : ℕ) → count_through s text ≡ Ok total → done + n ≡ total
