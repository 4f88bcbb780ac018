-- The tokens of a text by demand 2 (docs/RULES.md, "The three demands"): longest tokens of the annex's kinds under an image, one after the
-- other from byte 0; and the direction marks among them that are refused.
use Rattle.std.specs.Prelude.{ℕ, ◌≤◌, ◌≡◌, List, [], ◌∷◌, ◌++◌, length}
use Rattle.utf8.specs.Text.{Character, Encoded}
use Rattle.image.specs.Accepted.{Accepted}
use Rattle.grammar.specs.Scan.{Tok}
use Rattle.grammar.specs.Division.{Division}
use Rattle.grammar.specs.Grammar.{Kind, Token}
use Rattle.grammar.specs.Marks.{RefusedMark}
use Rattle.grammar.specs.Record.{tokens_width}
use Rattle.grammar.specs.Before.{max_text}
use Rattle.grammar.specs.Reading.{meaning_of}

-- an accepted image s; a text within the length limit; and its characters, in well-formed UTF-8 to its end
pub record Readable (s text : List ℕ) (characters : List Character) : Type 0 where
  pub image : Accepted s
  pub short : length text ≤ max_text
  pub well_formed : Encoded text characters []

-- the tokens ts are the longest each at its place, and at the characters `left` after them none begins
pub record Divided (s text : List ℕ) (ts : List (Tok Character Kind)) (left : List Character) : Type 0 where
  pub characters : List Character
  pub readable : Readable s text characters
  pub division : Division (Token (meaning_of s)) characters ts left

-- the longest run of tokens from byte 0 ends at byte p; a character stands there, and no token begins with it
pub record Stopped (s text : List ℕ) (p : ℕ) : Type 0 where
  pub tokens : List (Tok Character Kind)
  pub first : Character
  pub others : List Character
  pub divided : Divided s text tokens (first ∷ others)
  pub place : p ≡ tokens_width tokens

-- no run of longest tokens reaches the text's end
abbrev pub NoDivision : List ℕ → List ℕ → Type 0
NoDivision s text = (ts : List (Tok Character Kind)) → Divided s text ts [] → ⊥

-- the token at byte p of the text's division is a mark that is refused (docs/RULES.md, "Direction marks"; demand 2)
pub record MarkRefused (s text : List ℕ) (p : ℕ) : Type 0 where
  pub before : List (Tok Character Kind)
  pub mark : Tok Character Kind
  pub after : List (Tok Character Kind)
  pub divided : Divided s text (before ++ mark ∷ after) []
  pub refused : RefusedMark (meaning_of s) before mark after
  pub place : p ≡ tokens_width before

-- "the byte place of the first such token" (docs/RULES.md, "Direction marks"; demand 2)
pub record FirstMark (s text : List ℕ) (p : ℕ) : Type 0 where
  pub mark : MarkRefused s text p
  pub first : (q : ℕ) → MarkRefused s text q → p ≤ q

-- no mark is refused (docs/RULES.md, "Direction marks"; demand 2)
abbrev pub NoMark : List ℕ → List ℕ → Type 0
NoMark s text = (p : ℕ) → MarkRefused s text p → ⊥
