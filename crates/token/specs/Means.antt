-- What each answer of taking one token at a place says: one constructor for each that can be
-- (docs/RULES.md, "Tokens", one token at a place, and "Named refusals"; demands 1 and 2). `proofs/MeansLaws.antt` joins this to the call's answer, both ways.
use Rattle.token.specs.Taken.{Taken, at_end, token_with}
use Rattle.std.specs.Prelude.{ℕ, ◌+◌, ◌≤◌, ◌<◌, ◌≡◌, List, ◌∷◌, length, drop, Err}
use Rattle.std.proofs.Math.Option.{some}
use Rattle.refusal.specs.declared.Refusal.{Refusal}
use Rattle.refusal.specs.declared.Refusal.TheVariants as refusal
use Rattle.utf8.specs.Subpart.{MaximalSubpart}
use Rattle.utf8.specs.Head.{NoSequence}
use Rattle.utf8.specs.Text.{Character, Encoded, width_of}
use Rattle.image.specs.Accepted.{Accepted}
use Rattle.grammar.specs.Division.{Longest, NoToken}
use Rattle.grammar.specs.Grammar.{Kind, Token as TokenOf}
use Rattle.grammar.specs.Kinds.{kind_number}
use Rattle.grammar.specs.Before.{max_text, BeforeMeans}
use Rattle.grammar.specs.Reading.{meaning_of}

-- none of 1 to 5 and 13 applies
pub record PlaceAllowed (s text : List ℕ) (place : ℕ) : Type 0 where
  pub image : Accepted s
  pub short : length text ≤ max_text
  pub within : place ≤ length text

pub data TakenMeans (s text : List ℕ) (place : ℕ) : Taken → Type 0 where
  -- 1 to 5
  refused_before : {r : Refusal} → BeforeMeans max_text s text (some r) → TakenMeans s text place (Err r)
  -- 13: the place lies past the text's end
  past_end : Accepted s → length text ≤ max_text → length text < place → TakenMeans s text place (Err refusal.Shape)
  -- 6: no well-formed sequence begins at the place, and it isn't the end; n bytes there are the maximal subpart
  ill_formed :
      {n : ℕ} → PlaceAllowed s text place → place < length text → NoSequence (drop place text) → MaximalSubpart (drop place text) n →
      TakenMeans s text place (Err (refusal.IllFormed place n))
  -- 7: no token begins the characters from the place up to the first ill-formed place, and there is one
  no_token :
      {c : Character} {cs : List Character} {rest : List ℕ} → PlaceAllowed s text place → Encoded (drop place text) (c ∷ cs) rest →
      NoToken (TokenOf (meaning_of s)) (c ∷ cs) → TakenMeans s text place (Err (refusal.Characters place))
  -- the place is the text's end
  done : PlaceAllowed s text place → place ≡ length text → TakenMeans s text place at_end
  -- the longest token that begins the characters from the place up to the first ill-formed place: its kind, and its places in the whole text
  token :
      {cs us after : List Character} {rest : List ℕ} {k : Kind} → PlaceAllowed s text place → Encoded (drop place text) cs rest →
      Longest (TokenOf (meaning_of s)) cs k us after → TakenMeans s text place (token_with (kind_number k) place (place + width_of us))
