-- What counting a text's tokens and writing their list answer under an image (docs/RULES.md, "Tokens" and "Named refusals").
-- An image and a text are lists of bytes.
-- `limit` is how many profile entries an image may have; the names without `_within` have the limit in force.
--
--   meaning_of, rules_of           what the rules of tokens know of a character under an image; the rules
--   reading_of, tokens_of          the reading of a text's characters under an image; its tokens
--   form_refusal_by, form_refusal   6: the text is ill-formed
--   mark_refusal_by, mark_refusal   14: the first mark that is refused, where these are the text's tokens
--   judged                       7, then 14, else the tokens
--   read_through                  the tokens of a text under an accepted image: 6, then 7, then 14, else all tokens
--   outcome_within, outcome_of     the tokens of a text under an image: what is judged before the text, then the same
--   count_within, count_of         the answer of counting
--   room_refusal, roomed          8, of tokens or of anything that has a record each; an outcome with it
--   laid_by                       what the buffer holds after writing
--   written_within, written_of     the tokens that are written into a buffer of so many words
--   list_within, list_of           the answer of writing the list
--   list_words_within, list_words   what the buffer then holds
use Rattle.std.specs.Prelude.{ℕ, List, [], ◌∷◌, length, ltb, Ok, Err}
use Rattle.std.proofs.Math.Option.{Option, none, some}
use Rattle.lists.specs.Laid.{laid}
use Rattle.refusal.specs.declared.Refusal.{Refusal}
use Rattle.refusal.specs.declared.Refusal.TheVariants as refusal
use Rattle.utf8.specs.Text.{Character, decode, text_of, Form}
use Rattle.image.specs.Class.{class_named}
use Rattle.image.specs.Limits.{max_entries}
use Rattle.image.specs.Check.{class_of, medial_of}
use Rattle.grammar.specs.Before.{max_text, before_within}
use Rattle.grammar.specs.Scan.{Tok, Reading, Rules, reading}
use Rattle.grammar.specs.White.{white_of}
use Rattle.grammar.specs.Meaning.{Meaning}
use Rattle.grammar.specs.Grammar.{Kind}
use Rattle.grammar.specs.Kinds.{rules}
use Rattle.grammar.specs.Second.{first_refused}
use Rattle.refusal.specs.Outcome.{Outcome, given, refused, unless, refused_if, outcome_map}
use Rattle.grammar.specs.Record.{room_of, tokens_width, listed_words}

-- its class after the profile, its kind of White, and whether it is a medial
unfoldable pub meaning_of : List ℕ → Meaning Character
meaning_of s =
    record {
      class = λ (c : Character). class_named (class_of s c.code);
      white = λ (c : Character). white_of c.code;
      medial = λ (c : Character). medial_of s c.code;
    }

abbrev pub rules_of : List ℕ → Rules Character Kind
rules_of s = rules (meaning_of s)

unfoldable pub reading_of : List ℕ → List ℕ → Reading Character Kind
reading_of s text = reading (rules_of s) (decode text).characters

abbrev pub tokens_of : List ℕ → List ℕ → List (Tok Character Kind)
tokens_of s text = (reading_of s text).tokens

-- the first place in the whole text at which no well-formed sequence begins, and the length of the maximal subpart there
abbrev pub form_refusal_by : Form → Option Refusal
form_refusal_by (Ok u) = none
form_refusal_by (Err e) = some (refusal.IllFormed e.place e.len)

abbrev pub form_refusal : List ℕ → Option Refusal
form_refusal text = form_refusal_by (text_of text)

abbrev pub mark_refusal_by : Option (List (Tok Character Kind)) → Option Refusal
mark_refusal_by none = none
mark_refusal_by (some before) = some (refusal.Mark (tokens_width before))

unfoldable pub mark_refusal : List ℕ → List (Tok Character Kind) → Option Refusal
mark_refusal s ts = mark_refusal_by (first_refused (meaning_of s) [] ts)

-- 7: characters are left, and no token begins where the tokens end
abbrev pub judged : List ℕ → List (Tok Character Kind) → List Character → Outcome (List (Tok Character Kind))
judged s ts [] = unless (mark_refusal s ts) (given ts)
judged s ts (c ∷ r) = refused (refusal.Characters (tokens_width ts))

unfoldable pub read_through : List ℕ → List ℕ → Outcome (List (Tok Character Kind))
read_through s text = unless (form_refusal text) (judged s (reading_of s text).tokens (reading_of s text).left)

unfoldable pub outcome_within : ℕ → List ℕ → List ℕ → Outcome (List (Tok Character Kind))
outcome_within limit s text = unless (before_within limit max_text s text) (read_through s text)

abbrev pub outcome_of : List ℕ → List ℕ → Outcome (List (Tok Character Kind))
outcome_of s text = outcome_within max_entries s text

unfoldable pub count_within : ℕ → List ℕ → List ℕ → Outcome ℕ
count_within limit s text = outcome_map length (outcome_within limit s text)

abbrev pub count_of : List ℕ → List ℕ → Outcome ℕ
count_of s text = count_within max_entries s text

module _ {T : Type 0} where
  -- they need more room than a buffer of so many words has
  abbrev pub room_refusal : ℕ → List T → Option Refusal
  room_refusal words ts = refused_if (ltb (room_of words) (length ts)) (refusal.Room (length ts))

  abbrev pub roomed : ℕ → Outcome (List T) → Outcome (List T)
  roomed words (given ts) = unless (room_refusal words ts) (given ts)
  roomed words (refused r) = refused r

  -- the records' words from the first word on, and past them what was there; after a refusal, what was there
  abbrev pub laid_by : (List T → List ℕ) → List ℕ → Outcome (List T) → List ℕ
  laid_by words out (given ts) = laid out 0 (words ts)
  laid_by words out (refused r) = out

unfoldable pub written_within : ℕ → List ℕ → List ℕ → ℕ → Outcome (List (Tok Character Kind))
written_within limit s text words = roomed words (outcome_within limit s text)

abbrev pub written_of : List ℕ → List ℕ → ℕ → Outcome (List (Tok Character Kind))
written_of s text words = written_within max_entries s text words

unfoldable pub list_within : ℕ → List ℕ → List ℕ → ℕ → Outcome ℕ
list_within limit s text words = outcome_map length (written_within limit s text words)

abbrev pub list_of : List ℕ → List ℕ → ℕ → Outcome ℕ
list_of s text words = list_within max_entries s text words

unfoldable pub list_words_within : ℕ → List ℕ → List ℕ → List ℕ → List ℕ
list_words_within limit s text out = laid_by (listed_words text) out (written_within limit s text (length out))

abbrev pub list_words : List ℕ → List ℕ → List ℕ → List ℕ
list_words s text out = list_words_within max_entries s text out
