-- Demand 3 in the words of docs/RULES.md, "The words of demand 3". Images and texts are lists of bytes.
-- It speaks of counting and listing tokens; hashtags are not covered (docs/RULES.md, "Hashtags").
--
--   Later          the two images that demand 3 speaks of
--   SaysYes        the pair check of the two images says yes
--   StandsAt       a code point begins at a byte of the text and has so many bytes
--   AnotherClass   a code point has another class after the profile in the newer
--   NextChanged    a code point is a medial, and the next one has another class in the newer
--   Excepted       the place of a refusal 7 that the newer need not give
--   Promise        what demand 3 says of the answers of a call under the older and under the newer image
--   list_in         the words of n records in a buffer's front
--   Demand3        demand 3 for a text, and for counting its tokens and writing their list
use Rattle.std.specs.Prelude.{ℕ, ◌+◌, ◌*◌, ◌≡◌, true, List, [], ◌⊎◌, length, take, drop, Ok}
use Rattle.refusal.specs.declared.Refusal.{Refusal}
use Rattle.refusal.specs.declared.Refusal.TheVariants as refusal
use Rattle.refusal.specs.Outcome.{Outcome, given, refused}
use Rattle.utf8.specs.declared.Step.TheVariants.{Scalar}
use Rattle.utf8.specs.Head.{StepMeans}
use Rattle.utf8.specs.Text.{Character}
use Rattle.image.specs.Check.{class_of, medial_of}
use Rattle.image.specs.Accepted.{Accepted}
use Rattle.image.specs.Same.{SameProfile}
use Rattle.pair.specs.Pair.{pair_of}
use Rattle.pair.specs.Means.{OnlyPermitted}
use Rattle.grammar.specs.Scan.{Tok}
use Rattle.grammar.specs.Grammar.{Kind}
use Rattle.grammar.specs.Record.{record_size}
use Rattle.grammar.specs.Reading.{count_of, list_of, list_words}
use Rattle.demands.specs.Demand2.{Divided, Stopped, FirstMark, NoMark}

-- "any two accepted images with equal profiles, where the newer differs from the older only by changes that Table 1 of the annex permits":
-- at every scalar value the two classes in the ranges are equal, or the change is permitted
pub record Later (older newer : List ℕ) : Type 0 where
  pub older_accepted : Accepted older
  pub newer_accepted : Accepted newer
  pub profiles : SameProfile older newer
  pub permitted : OnlyPermitted older newer

abbrev pub SaysYes : List ℕ → List ℕ → Type 0
SaysYes older newer = pair_of older newer ≡ Ok tt

abbrev pub StandsAt : List ℕ → ℕ → ℕ → ℕ → Type 0
StandsAt text p x n = StepMeans (drop p text) (Scalar x n)

abbrev pub AnotherClass : List ℕ → List ℕ → ℕ → Type 0
AnotherClass older newer x = class_of newer x ≡ class_of older x → ⊥

module _ (older newer text : List ℕ) where
  -- the next one stands at byte p
  pub record NextChanged (x p : ℕ) : Type 0 where
    pub medial : medial_of older x ≡ true
    pub next : ℕ
    pub width : ℕ
    pub stands : StandsAt text p next width
    pub another : AnotherClass older newer next

  -- "the character there has another class in the newer, or that character is a medial and the next one has another class in the newer"
  pub record Excepted (p : ℕ) : Type 0 where
    pub character : ℕ
    pub width : ℕ
    pub stands : StandsAt text p character width
    pub changed : AnotherClass older newer character ⊎ NextChanged character (p + width)

  pub record Promise (a b : Outcome ℕ) : Type 0 where
    -- "a text that is accepted under the older image is accepted under the newer, with the same count"
    pub accepted : (n : ℕ) → a ≡ given n → b ≡ given n
    -- "where the older refuses a text for its characters, the newer gives the same refusal at the same place, unless" a character changed
    pub characters : (p : ℕ) → a ≡ refused (refusal.Characters p) → (b ≡ refused (refusal.Characters p)) ⊎ Excepted p
    -- "every other refusal that the older gives a text, the newer gives too, and it carries the same; of 6 that is the place and the length",
    -- of 14 the place
    pub others : (r : Refusal) → a ≡ refused r → ((p : ℕ) → r ≡ refusal.Characters p → ⊥) → b ≡ refused r

abbrev pub list_in : ℕ → List ℕ → List ℕ
list_in n out = take (record_size * n) out

-- the list is written into the buffers `out` and `new_out`
pub record Demand3 (older newer text out new_out : List ℕ) : Type 0 where
  -- of demand 2's division itself
  pub division : (ts : List (Tok Character Kind)) → Divided older text ts [] → Divided newer text ts []
  pub stopped : (p : ℕ) → Stopped older text p → Stopped newer text p ⊎ Excepted older newer text p
  -- of the marks in it: the first that is refused, or that none is
  pub marked : (p : ℕ) → FirstMark older text p → FirstMark newer text p
  pub unmarked : (ts : List (Tok Character Kind)) → Divided older text ts [] → NoMark older text → NoMark newer text
  -- of the answers, and "word for word, the same list"
  pub counting : Promise older newer text (count_of older text) (count_of newer text)
  pub writing : Promise older newer text (list_of older text (length out)) (list_of newer text (length new_out))
  pub same_list : (n : ℕ) → list_of older text (length out) ≡ given n → list_in n (list_words newer text new_out) ≡ list_in n (list_words older text out)
