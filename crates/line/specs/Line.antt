-- The lines of a text (docs/RULES.md, "Lines"). They are a matter of its code points alone, whatever class or role these have.
-- The line ends are those of UAX #31 of Unicode 16.0, UAX31-R3a-1, item 1.
use Rattle.std.specs.Prelude.{ℕ, ◌+◌, ◌≡◌, Bool, true, false, not, ◌&&◌, ◌||◌, cond, List, [], ◌∷◌, ◌++◌, leb, eqb}
use Rattle.utf8.specs.Text.{Character, decode, characters_at, width_of}

-- the code points that end a line: LINE FEED, LINE TABULATION, FORM FEED, CARRIAGE RETURN, NEXT LINE, LINE SEPARATOR, PARAGRAPH SEPARATOR
unfoldable pub is_line_end : ℕ → Bool
is_line_end x = eqb x 0x0A || (eqb x 0x0B || (eqb x 0x0C || (eqb x 0x0D || (eqb x 0x85 || (eqb x 0x2028 || eqb x 0x2029)))))

-- whether LINE FEED is the first of characters
abbrev pub feed_first : List Character → Bool
feed_first [] = false
feed_first (c ∷ r) = eqb c.code 0x0A

-- whether a line ends with the code point x, where the characters r follow it: with CARRIAGE RETURN it doesn't if LINE FEED is right
-- after it, since the line ends with that
unfoldable pub ends_line : ℕ → List Character → Bool
ends_line x r = is_line_end x && not (eqb x 0x0D && feed_first r)

abbrev pub one : Bool → ℕ
one true = 1
one false = 0

-- the line ends of characters that begin at byte p: for each, one past its last byte
unfoldable pub line_ends : ℕ → List Character → List ℕ
line_ends p [] = []
line_ends p (c ∷ r) =
    let q = p + c.width in
    cond (ends_line c.code r) (q ∷ line_ends q r) (line_ends q r)

-- how many of them have their last byte before the byte p
abbrev pub before : ℕ → List ℕ → ℕ
before p [] = 0
before p (e ∷ es) = one (leb e p) + before p es

-- the line of byte p of a text: one more than the number of line ends whose last byte stands before it. Where the text is ill-formed,
-- the characters up to the first such place count
unfoldable pub line_of : List ℕ → ℕ → ℕ
line_of text p = 1 + before p (line_ends 0 (decode text).characters)

-- a place between the characters of a text, and its line
pub record LineAt (text : List ℕ) (at line : ℕ) : Type 0 where
  pub front : List Character
  pub parted : (decode text).characters ≡ front ++ characters_at text at
  pub wide : width_of front ≡ at
  pub same : line ≡ line_of text at
