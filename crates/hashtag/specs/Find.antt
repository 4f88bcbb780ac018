-- The hashtags of a text's characters, found place by place, and what it means that they are all (docs/RULES.md, "Hashtags").
-- `proofs/FindLaws.antt` joins the two.
--
--   Span           the first byte of a hashtag, and one past its last
--   run_of          the run of hashtag Continue at the front of characters
--   span_by         the hashtag at a place, if there is one
--   hashtags_from   the hashtags of the characters from a byte on
--   hashtags_of     the hashtags of a text under an image
--   HashtagAt      a hashtag of the characters stands at these places
--   Has, SpansRise    a list has this hashtag; its hashtags rise and don't overlap
--   AllHashtags    a list has exactly the hashtags of the characters, rising
use Rattle.std.specs.Prelude.{ℕ, ◌+◌, ◌≤◌, ◌<◌, ◌≡◌, Bool, true, false, not, ◌&&◌, cond, List, [], ◌∷◌, ◌++◌, ◌⊎◌}
use Rattle.utf8.specs.Text.{Character, width_of, decode}
use Rattle.hashtag.specs.Hashtag.{Hashtag}
use Rattle.hashtag.specs.Sign.{signs, continues, IsSign, IsContinue}

pub record Span : Type 0 where
  pub start : ℕ
  pub end : ℕ

unfoldable pub run_of : List ℕ → List Character → List Character
run_of s [] = []
run_of s (c ∷ r) = cond (continues s c) (c ∷ run_of s r) []

-- from p on, with its run from q on: what stands at p may begin a hashtag, and the run isn't empty
abbrev pub span_by : Bool → ℕ → ℕ → List Character → List Span
span_by b p q [] = []
span_by false p q (c ∷ r) = []
span_by true p q (c ∷ r) = record { start = p; end = q + width_of (c ∷ r) } ∷ []

-- `free`: no hashtag Continue stands right before the characters
unfoldable pub hashtags_from : List ℕ → Bool → ℕ → List Character → List Span
hashtags_from s free p [] = []
hashtags_from s free p (c ∷ r) =
    let q = p + c.width in
    span_by (free && signs c) p q (run_of s r) ++ hashtags_from s (not (continues s c)) q r

-- of a text that is ill-formed, those up to the first ill-formed place
unfoldable pub hashtags_of : List ℕ → List ℕ → List Span
hashtags_of s text = hashtags_from s true 0 (decode text).characters

pub record HashtagAt (s : List ℕ) (cs : List Character) (t : Span) : Type 0 where
  pub before : List Character
  pub units : List Character
  pub after : List Character
  pub hashtag : Hashtag IsSign (IsContinue s) cs before units after
  pub start : t.start ≡ width_of before
  pub end : t.end ≡ width_of before + width_of units

abbrev pub Has : Span → List Span → Type 0
Has t [] = ⊥
Has t (u ∷ us) = (t ≡ u) ⊎ Has t us

-- each begins at p or after it, and ends after it begins, and the next begins no sooner than that
abbrev pub SpansRise : ℕ → List Span → Type 0
SpansRise p [] = Unit {0}
SpansRise p (t ∷ ts) = (p ≤ t.start) × (t.start < t.end) × SpansRise t.end ts

pub record AllHashtags (s : List ℕ) (cs : List Character) (ts : List Span) : Type 0 where
  pub only : (t : Span) → Has t ts → HashtagAt s cs t
  pub all : (t : Span) → HashtagAt s cs t → Has t ts
  pub rising : SpansRise 0 ts
