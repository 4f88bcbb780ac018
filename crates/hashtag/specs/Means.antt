-- What each answer of writing the list of a text's hashtags says: one constructor for each that can be
-- (docs/RULES.md, "Named refusals"; demand 1). `proofs/MeansLaws.antt` joins this to the call's answers, both ways.
use Rattle.std.specs.Prelude.{ℕ, ◌≤◌, ◌<◌, ◌≡◌, List, [], length}
use Rattle.std.proofs.Math.Option.{none, some}
use Rattle.refusal.specs.declared.Refusal.{Refusal}
use Rattle.refusal.specs.declared.Refusal.TheVariants as refusal
use Rattle.refusal.specs.Outcome.{Outcome, given, refused}
use Rattle.utf8.specs.Text.{Character, Encoded, TextMeans, ill}
use Rattle.image.specs.Accepted.{Accepted}
use Rattle.grammar.specs.Record.{room_of}
use Rattle.grammar.specs.Before.{max_text, BeforeMeans}
use Rattle.hashtag.specs.Find.{Span, AllHashtags}

-- under an accepted image s the list ts has exactly the hashtags of the text, which is within the length limit and well-formed to its end
pub record Tagged (s text : List ℕ) (ts : List Span) : Type 0 where
  pub image : Accepted s
  pub short : length text ≤ max_text
  pub characters : List Character
  pub well_formed : Encoded text characters []
  pub hashtags : AllHashtags s characters ts

module _ (s text : List ℕ) where
  -- the refusals of an image and a text, whatever the room; none is for the text's characters
  pub data Refuses : Refusal → Type 0 where
    -- 1 to 5
    refused_before : {r : Refusal} → BeforeMeans max_text s text (some r) → Refuses r
    -- 6: p is the first place at which no well-formed sequence begins, and n bytes there are the maximal subpart
    ill_formed : {p n : ℕ} → BeforeMeans max_text s text none → TextMeans text (ill p n) → Refuses (refusal.IllFormed p n)

  -- writing the list into a buffer of so many words: the number of hashtags where there is room for them, else 8 with the records needed
  pub data HashtagListMeans (words : ℕ) : Outcome ℕ → Type 0 where
    lists : {n : ℕ} {ts : List Span} → Tagged s text ts → length ts ≡ n → n ≤ room_of words → HashtagListMeans words (given n)
    no_room : {n : ℕ} {ts : List Span} → Tagged s text ts → length ts ≡ n → room_of words < n → HashtagListMeans words (refused (refusal.Room n))
    list_refuses : {r : Refusal} → Refuses r → HashtagListMeans words (refused r)
