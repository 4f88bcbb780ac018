-- What a hashtag in a text is (docs/RULES.md, "Hashtags"), over any units of which some are signs and some are hashtag Continue.
-- UAX #31 of Unicode 16.0, Section 6, UAX31-R8-2: definition UAX31-D2 with a profile of UAX31-R8-1. Start is the three signs, Medial is
-- empty, Continue is the image's, and one Continue at least is asked for.
use Rattle.std.specs.Prelude.{◌≡◌, List, [], ◌∷◌, ◌++◌, ◌≤◌, length}
use Rattle.grammar.specs.All.{All}

module _ {A : Type 0} (IsSign IsContinue : A → Type 0) where
  -- <Hashtag-Identifier> := <Start> <Continue>+
  pub record HashtagIdentifier (u : List A) : Type 0 where
    pub sign : A
    pub first : A
    pub others : List A
    pub whole : u ≡ sign ∷ first ∷ others
    pub start : IsSign sign
    pub continued : All IsContinue (first ∷ others)

  -- the units u are a hashtag of the text, between `before` and `after`: no hashtag identifier that begins there is longer, and no
  -- Continue stands right before it
  pub record Hashtag (text before u after : List A) : Type 0 where
    pub whole : text ≡ before ++ (u ++ after)
    pub identifier : HashtagIdentifier u
    pub longest : (v w : List A) → u ++ after ≡ v ++ w → HashtagIdentifier v → length v ≤ length u
    pub alone : (b : List A) (c : A) → before ≡ b ++ (c ∷ []) → IsContinue c → ⊥
