-- What each answer of counting a text's tokens and of writing their list says: one constructor for each that can be
-- (docs/RULES.md, "Named refusals"; demands 1 and 2). `proofs/MeansLaws.antt` joins this to the calls' answers, both ways.
use Rattle.std.specs.Prelude.{ℕ, ◌≤◌, ◌<◌, ◌≡◌, List, [], length}
use Rattle.std.proofs.Math.Option.{none, some}
use Rattle.refusal.specs.declared.Refusal.{Refusal}
use Rattle.refusal.specs.declared.Refusal.TheVariants as refusal
use Rattle.refusal.specs.Outcome.{Outcome, given, refused}
use Rattle.utf8.specs.Text.{Character, TextMeans, ill}
use Rattle.grammar.specs.Scan.{Tok}
use Rattle.grammar.specs.Grammar.{Kind}
use Rattle.grammar.specs.Record.{room_of}
use Rattle.grammar.specs.Before.{max_text, BeforeMeans}
use Rattle.demands.specs.Demand2.{Divided, Stopped, FirstMark, NoMark}

module _ (s text : List ℕ) where
  -- the refusals of an image and a text, whatever the room
  pub data Refuses : Refusal → Type 0 where
    -- 1 to 5
    refused_before : {r : Refusal} → BeforeMeans max_text s text (some r) → Refuses r
    -- 6: p is the first place at which no well-formed sequence begins, and n bytes there are the maximal subpart
    ill_formed : {p n : ℕ} → BeforeMeans max_text s text none → TextMeans text (ill p n) → Refuses (refusal.IllFormed p n)
    -- 7: the longest run of tokens from byte 0 ends at p, and no token begins there
    no_token : {p : ℕ} → Stopped s text p → Refuses (refusal.Characters p)
    -- 14: the text has a division, and the first mark in it that is refused stands at p
    mark : {p : ℕ} → FirstMark s text p → Refuses (refusal.Mark p)

  -- counting: the tokens of the division, where no mark is refused, or a refusal
  pub data CountMeans : Outcome ℕ → Type 0 where
    counts : {n : ℕ} {ts : List (Tok Character Kind)} → Divided s text ts [] → NoMark s text → length ts ≡ n → CountMeans (given n)
    count_refuses : {r : Refusal} → Refuses r → CountMeans (refused r)

  -- writing the list into a buffer of so many words: the same where there is room for the tokens, else 8 with the records needed
  pub data ListMeans (words : ℕ) : Outcome ℕ → Type 0 where
    lists : {n : ℕ} {ts : List (Tok Character Kind)} → Divided s text ts [] → NoMark s text → length ts ≡ n → n ≤ room_of words → ListMeans words (given n)
    no_room : {n : ℕ} {ts : List (Tok Character Kind)} → Divided s text ts [] → NoMark s text → length ts ≡ n → room_of words < n → ListMeans words (refused (refusal.Room n))
    list_refuses : {r : Refusal} → Refuses r → ListMeans words (refused r)
