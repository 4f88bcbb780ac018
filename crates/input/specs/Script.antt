-- An image and right after it a text, as the token lister reads them (docs/RULES.md, "The programs").
-- `limit` is how many profile entries an image may have; the names without `_within` have the limit in force.
--
--   max_script                        the most bytes of the lister's text
--   script_within, script_written      the tokens of a text under an image, written into a buffer of so many words
--   written_from_within, written_from   the same of an input: the image at its front, and the text after it
--   listed_within, listed_from         the answer of the lister's call
--   script_words_within, script_words   what the lent words then hold
--   whole_answer_within, whole_answer   the program's answer
--   ScriptMeans                      what each outcome of an image and a text means
--   ListingMeans                     what each answer of the call means, and what the lent words then hold
use Rattle.std.specs.Prelude.{ℕ, ◌*◌, ◌≡◌, List, length, Result}
use Rattle.std.proofs.Math.Option.{none, some}
use Rattle.lists.specs.Laid.{laid}
use Rattle.refusal.specs.declared.Refusal.{Refusal}
use Rattle.refusal.specs.declared.Refusal.TheVariants as refusal
use Rattle.refusal.specs.Outcome.{Outcome, given, refused, unless, outcome_map}
use Rattle.utf8.specs.Text.{Character}
use Rattle.image.specs.Limits.{max_entries}
use Rattle.grammar.specs.Scan.{Tok}
use Rattle.grammar.specs.Grammar.{Kind}
use Rattle.grammar.specs.Record.{record_size, listed_words}
use Rattle.grammar.specs.Before.{before_within, BeforeMeans}
use Rattle.grammar.specs.Reading.{written_within, written_of, laid_by}
use Rattle.grammar.specs.Counted.{counted_by}
use Rattle.input.specs.Front.{image_in, rest_in as text_in, front_within, after_within, ComesWhole}

abbrev pub max_script : ℕ
max_script = 8192

-- 1 to 4 of the image, then 5 above 8,192 bytes of text, then what writing the list gives
unfoldable pub script_within : ℕ → List ℕ → List ℕ → ℕ → Outcome (List (Tok Character Kind))
script_within limit image text words =
    unless (before_within limit max_script image text) (written_within limit image text words)

abbrev pub script_written : List ℕ → List ℕ → ℕ → Outcome (List (Tok Character Kind))
script_written image text words = script_within max_entries image text words

abbrev pub written_from_within : ℕ → List ℕ → ℕ → Outcome (List (Tok Character Kind))
written_from_within limit input words = script_within limit (front_within limit input) (after_within limit input) words

abbrev pub written_from : List ℕ → ℕ → Outcome (List (Tok Character Kind))
written_from input words = written_from_within max_entries input words

unfoldable pub listed_within : ℕ → List ℕ → ℕ → Outcome ℕ
listed_within limit input words = outcome_map length (written_from_within limit input words)

abbrev pub listed_from : List ℕ → ℕ → Outcome ℕ
listed_from input words = listed_within max_entries input words

unfoldable pub script_words_within : ℕ → List ℕ → List ℕ → List ℕ
script_words_within limit input out = laid_by (listed_words (after_within limit input)) out (written_from_within limit input (length out))

abbrev pub script_words : List ℕ → List ℕ → List ℕ
script_words input out = script_words_within max_entries input out

-- there is room for a token at every byte of the longest text
unfoldable pub whole_answer_within : ℕ → List ℕ → Result ℕ Refusal
whole_answer_within limit input = counted_by (listed_within limit input (record_size * max_script))

abbrev pub whole_answer : List ℕ → Result ℕ Refusal
whole_answer input = whole_answer_within max_entries input

pub data ScriptMeans (image text : List ℕ) (words : ℕ) : Outcome (List (Tok Character Kind)) → Type 0 where
  refused_before : {r : Refusal} → BeforeMeans max_script image text (some r) → ScriptMeans image text words (refused r)
  short_text :
      {o : Outcome (List (Tok Character Kind))} → BeforeMeans max_script image text none → written_of image text words ≡ o
      → ScriptMeans image text words o

-- the lent words were `out`. 1 of an image that doesn't come whole, or a refusal of the image at the front with the text after it, and the
-- words as they were; or the number of tokens, and their words in the front
pub data ListingMeans (input out : List ℕ) : Outcome ℕ → List ℕ → Type 0 where
  cut_off : (ComesWhole input → ⊥) → ListingMeans input out (refused refusal.Length) out
  not_listed :
      {r : Refusal} → ComesWhole input → ScriptMeans (image_in input) (text_in input) (length out) (refused r)
      → ListingMeans input out (refused r) out
  listed :
      {ts : List (Tok Character Kind)} → ComesWhole input → ScriptMeans (image_in input) (text_in input) (length out) (given ts)
      → ListingMeans input out (given (length ts)) (laid out 0 (listed_words (text_in input) ts))
