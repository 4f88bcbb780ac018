-- Two readers, of which one allows k profile entries and the other l, give the same answers and leave the same in all that is lent
-- (docs/RULES.md, "Readers with a lower limit"). A profile is the same if its used length and the entries before it are.
use Rattle.std.specs.Prelude.{ℕ, ◌≡◌, List}
use Rattle.image.specs.declared.Profile.{Profile}
use Rattle.image.specs.Same.{SameChecked}
use Rattle.image.specs.Check.{check_within, read_within, words_within}
use Rattle.lookup.specs.Lookup.{lookup_within}
use Rattle.writer.specs.Write.{write_within, bytes_within}
use Rattle.pair.specs.Pair.{pair_within}
use Rattle.changes.specs.Answer.{answer_within, runs_after_within, entries_after_within}
use Rattle.grammar.specs.Reading.{count_within, list_within, list_words_within}
use Rattle.token.specs.Taken.{taken_within}
use Rattle.hashtag.specs.Listed.{hashtag_list_within, hashtag_words_within}
use Rattle.input.specs.Script.{listed_within, script_words_within as script_words, whole_answer_within as whole_list}
use Rattle.input.specs.Images.{answer_from_within, runs_from_within, entries_from_within, whole_answer_within as whole_changes}

module _ (k l : ℕ) where
  -- the calls on one image
  pub record AgreeOnImage (s : List ℕ) : Type 0 where
    pub checked : SameChecked (check_within k s) (check_within l s)
    pub read : (words : ℕ) → SameChecked (read_within k s words) (read_within l s words)
    pub read_words : (out : List ℕ) → words_within k s out ≡ words_within l s out
    pub looked_up : (x : ℕ) → lookup_within k s x ≡ lookup_within l s x
    pub counted : (text : List ℕ) → count_within k s text ≡ count_within l s text
    pub listed : (text : List ℕ) (words : ℕ) → list_within k s text words ≡ list_within l s text words
    pub list_words : (text out : List ℕ) → list_words_within k s text out ≡ list_words_within l s text out
    pub taken : (text : List ℕ) (place : ℕ) → taken_within k s text place ≡ taken_within l s text place
    pub hashtags : (text : List ℕ) (words : ℕ) → hashtag_list_within k s text words ≡ hashtag_list_within l s text words
    pub hashtag_words : (text out : List ℕ) → hashtag_words_within k s text out ≡ hashtag_words_within l s text out

  -- the calls on two images
  pub record AgreeOnPair (older newer : List ℕ) : Type 0 where
    pub compared : pair_within k older newer ≡ pair_within l older newer
    pub changes : (run_words entry_words : ℕ) → answer_within k older newer run_words entry_words ≡ answer_within l older newer run_words entry_words
    pub runs : (out more : List ℕ) → runs_after_within k older newer out more ≡ runs_after_within l older newer out more
    pub entries : (out more : List ℕ) → entries_after_within k older newer out more ≡ entries_after_within l older newer out more

  -- the writer, of the same profile in two records
  pub record AgreeOnWriting (words : List ℕ) (p q : Profile) : Type 0 where
    pub answer : (room : ℕ) → write_within k words p room ≡ write_within l words q room
    pub bytes : (version : ℕ) (out : List ℕ) → bytes_within k version words p out ≡ bytes_within l version words q out

  -- the token lister's call and program, on an image and the text after it
  pub record AgreeOnScript (input : List ℕ) : Type 0 where
    pub listed : (words : ℕ) → listed_within k input words ≡ listed_within l input words
    pub list_words : (out : List ℕ) → script_words k input out ≡ script_words l input out
    pub whole : whole_list k input ≡ whole_list l input

  -- the change lister's call and program, on two images one after the other
  pub record AgreeOnChanges (input : List ℕ) : Type 0 where
    pub changes : (run_words entry_words : ℕ) → answer_from_within k input run_words entry_words ≡ answer_from_within l input run_words entry_words
    pub runs : (out more : List ℕ) → runs_from_within k input out more ≡ runs_from_within l input out more
    pub entries : (out more : List ℕ) → entries_from_within k input out more ≡ entries_from_within l input out more
    pub whole : whole_changes k input ≡ whole_changes l input
