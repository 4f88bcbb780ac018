-- A reader that allows so many profile entries refuses an image in every call, and leaves all that is lent as it was: no part of the image
-- is read (docs/RULES.md, "Readers with a lower limit").
--
--   RefusesWriting   the writer refuses with 2, and the buffer stays
--   RefusesChanges   the list of changes refuses, and both buffers stay
--   RefusesScript    the token lister's call and program refuse
--   RefusesInput     the change lister's call and program refuse
--   RefusesImage     every call refuses the image
use Rattle.std.specs.Prelude.{ℕ, ◌≡◌, List, Err, Result}
use Rattle.std.proofs.Math.Option.{none}
use Rattle.refusal.specs.declared.Refusal.{Refusal}
use Rattle.refusal.specs.declared.Refusal.TheVariants as refusal
use Rattle.refusal.specs.Outcome.{refused}
use Rattle.image.specs.Check.{refusal_within, refused_within, check_within, read_within, words_within}
use Rattle.image.specs.declared.Profile.{Profile}
use Rattle.writer.specs.Write.{write_within, bytes_within}
use Rattle.lookup.specs.Lookup.{lookup_within}
use Rattle.pair.specs.Pair.{pair_within}
use Rattle.pair.specs.declared.PairRefusal.{PairRefusal}
use Rattle.pair.specs.declared.PairRefusal.TheVariants.{Older, Newer}
use Rattle.changes.specs.Answer.{answer_within, runs_after_within, entries_after_within}
use Rattle.changes.specs.declared.Lists.{Lists}
use Rattle.grammar.specs.Reading.{count_within, list_within, list_words_within}
use Rattle.token.specs.Taken.{taken_within}
use Rattle.hashtag.specs.Listed.{hashtag_list_within, hashtag_words_within}
use Rattle.input.specs.Front.{image_in, rest_in}
use Rattle.input.specs.Script.{listed_within, script_words_within as script_words, whole_answer_within as whole_list}
use Rattle.input.specs.Images.{answer_from_within, runs_from_within, entries_from_within, whole_answer_within as whole_changes}

module _ (limit : ℕ) where
  pub record RefusesWriting (words : List ℕ) (p : Profile) : Type 0 where
    pub answer : (room : ℕ) → write_within limit words p room ≡ Err refusal.Header
    pub bytes : (version : ℕ) (out : List ℕ) → bytes_within limit version words p out ≡ out

  pub record RefusesChanges (older newer : List ℕ) (c : Result Lists PairRefusal) : Type 0 where
    pub answer : (run_words entry_words : ℕ) → answer_within limit older newer run_words entry_words ≡ c
    pub runs : (out more : List ℕ) → runs_after_within limit older newer out more ≡ out
    pub entries : (out more : List ℕ) → entries_after_within limit older newer out more ≡ more

  pub record RefusesScript (input : List ℕ) (r : Refusal) : Type 0 where
    pub listed : (words : ℕ) → listed_within limit input words ≡ refused r
    pub list_words : (out : List ℕ) → script_words limit input out ≡ out
    pub whole : whole_list limit input ≡ Err r

  pub record RefusesInput (input : List ℕ) (c : Result Lists PairRefusal) : Type 0 where
    pub answer : (run_words entry_words : ℕ) → answer_from_within limit input run_words entry_words ≡ c
    pub runs : (out more : List ℕ) → runs_from_within limit input out more ≡ out
    pub entries : (out more : List ℕ) → entries_from_within limit input out more ≡ more
    pub whole : whole_changes limit input ≡ c

  pub record RefusesImage (s : List ℕ) (r : Refusal) : Type 0 where
    pub checked : check_within limit s ≡ refused_within limit r
    pub read : (words : ℕ) → read_within limit s words ≡ refused_within limit r
    pub read_words : (out : List ℕ) → words_within limit s out ≡ out
    pub looked_up : (x : ℕ) → lookup_within limit s x ≡ Err r
    pub counted : (text : List ℕ) → count_within limit s text ≡ refused r
    pub listed : (text : List ℕ) (words : ℕ) → list_within limit s text words ≡ refused r
    pub list_words : (text out : List ℕ) → list_words_within limit s text out ≡ out
    pub taken : (text : List ℕ) (place : ℕ) → taken_within limit s text place ≡ Err r
    pub hashtags : (text : List ℕ) (words : ℕ) → hashtag_list_within limit s text words ≡ refused r
    pub hashtag_words : (text out : List ℕ) → hashtag_words_within limit s text out ≡ out
    -- as the older of two images, and as the newer, after an older one that is accepted
    pub compared_older : (newer : List ℕ) → pair_within limit s newer ≡ Err (Older r)
    pub compared_newer : (older : List ℕ) → refusal_within limit older ≡ none → pair_within limit older s ≡ Err (Newer r)
    pub changes_older : (newer : List ℕ) → RefusesChanges s newer (Err (Older r))
    pub changes_newer : (older : List ℕ) → refusal_within limit older ≡ none → RefusesChanges older s (Err (Newer r))
    -- in the listers' inputs
    pub script_refused : (input : List ℕ) → image_in input ≡ s → RefusesScript input r
    pub input_older : (input : List ℕ) → image_in input ≡ s → RefusesInput input (Err (Older r))
    pub input_newer : (input : List ℕ) → refusal_within limit (image_in input) ≡ none → rest_in input ≡ s → RefusesInput input (Err (Newer r))
