-- Inner: no public statement cites this file.
-- Looking for the next hashtag of a text, from a byte place on (docs/RULES.md, "Hashtags" and "Lines").
--
--   hashtags_at                     the hashtags of the characters from a place on
--   continues_first                 whether the first of characters is hashtag Continue
--   free_at                         no hashtag Continue stands right before a place
--   stop_for, StopsOf                what a search for signs does at a byte; the table of all bytes
--   BytesPassed                         it stops nowhere from one place to before another
--   Skipped                        the first place from a place on where it stops, in a text not known to be well-formed, or the text's end
--   sum_of                          the line ends that it passes over
--   LinesCounted, LinesCountedTo   as BytesPassed and Skipped, with the line ends counted on the way
--   Backed                         the last place before another whose byte is none of 80 to BF
--   sign_of                         whether a sequence is that of a sign
--   SignFound, NoneFound           the sign of the next hashtag from a place on; there is none, and the characters end at a place
--   Sought                         the one or the other
use Rattle.std.specs.Prelude.{ℕ, zero, suc, ◌+◌, ◌-◌, ◌*◌, ◌≤◌, ◌<◌, ◌≡◌, Bool, true, false, not, cond, List, [], ◌∷◌, ◌⊎◌, ltb, eqb, length, get_or, drop, Result, Ok, Err}
use Rattle.lists.specs.Filled.{Filled}
use Rattle.utf8.specs.declared.Step.{Step}
use Rattle.utf8.specs.declared.Step.TheVariants.{Scalar, IllFormed, End}
use Rattle.utf8.specs.Head.{IllHead}
use Rattle.utf8.specs.Lead.{is_trail}
use Rattle.utf8.specs.Text.{Character, characters_at, width_of, text_of, shift}
use Rattle.line.specs.Ends.{look, end_of}
use Rattle.hashtag.specs.Sign.{is_sign, continues}
use Rattle.hashtag.specs.Find.{Span, run_of, hashtags_from}
use Rattle.hashtag.specs.declared.Sign.{Sign}
use Rattle.hashtag.specs.declared.Reach.{Reach}

abbrev pub hashtags_at : List ℕ → List ℕ → Bool → ℕ → List Span
hashtags_at s text free at = hashtags_from s free at (characters_at text at)

abbrev pub continues_first : List ℕ → List Character → Bool
continues_first s [] = false
continues_first s (c ∷ r) = continues s c

-- the character right before the place begins at `before`, or there is none and the two are the same
abbrev pub free_at : List ℕ → List ℕ → ℕ → ℕ → Bool
free_at s text before at = cond (ltb before at) (not (continues_first s (characters_at text before))) true

-- `look` where it stops, else how many line ends it passes over there. It stops at the first bytes of the signs; in a text that is known to be
-- well-formed where a line end is to be looked at, in another at every byte that isn't a character by itself, and line ends aren't counted
abbrev pub stop_for : Bool → ℕ → ℕ
stop_for known b = cond (eqb b 0x23) look (cond (eqb b 0xEF) look (cond known (end_of b) (cond (ltb b 0x80) 0 look)))

abbrev pub StopsOf : Bool → List ℕ → Type 0
StopsOf known t = Filled 256 (stop_for known) t 256

pub record BytesPassed (known : Bool) (text : List ℕ) (from to : ℕ) : Type 0 where
  pub above : from ≤ to
  pub within : to ≤ length text
  pub each : (i : ℕ) → from ≤ i → i < to → stop_for known (get_or text i 0) < look

pub record Skipped (text : List ℕ) (from to : ℕ) : Type 0 where
  pub passed : BytesPassed false text from to
  pub stop : to < length text → stop_for false (get_or text to 0) < look → ⊥

-- in n bytes from a place on, in a text that is known to be well-formed
unfoldable pub sum_of : List ℕ → ℕ → ℕ → ℕ
sum_of text from zero = 0
sum_of text from (suc n) = sum_of text from n + stop_for true (get_or text (from + n) 0)

-- `from` is on this line
pub record LinesCounted (text : List ℕ) (from line : ℕ) (r : Reach) : Type 0 where
  pub passed : BytesPassed true text from r.at
  pub sum : r.line ≡ line + sum_of text from (r.at - from)
  pub few : r.line ≤ line + look * (r.at - from)

pub record LinesCountedTo (text : List ℕ) (from line : ℕ) (r : Reach) : Type 0 where
  pub counted : LinesCounted text from line r
  pub stop : r.at < length text → stop_for true (get_or text r.at 0) < look → ⊥

-- no sooner than `from`; `from` where there is none
pub record Backed (text : List ℕ) (from to r : ℕ) : Type 0 where
  pub above : from ≤ r
  pub below : r ≤ to
  pub others : (i : ℕ) → r < i → i < to → is_trail (get_or text i 0) ≡ true
  pub first : ((r < to) × (is_trail (get_or text r 0) ≡ false)) ⊎ ((r ≡ from) × (r < to → is_trail (get_or text r 0) ≡ true))

abbrev pub sign_of : Step → Bool
sign_of (Scalar x n) = is_sign x
sign_of (IllFormed n) = false
sign_of End = false

-- where no hashtag Continue stands right before the place `from`
pub record SignFound (s text : List ℕ) (from : ℕ) (r : Sign) : Type 0 where
  pub above : from ≤ r.at
  pub rises : r.at < r.next
  pub within : r.next ≤ length text
  pub form : shift r.next (text_of (drop r.next text)) ≡ shift from (text_of (drop from text))
  pub some :
      hashtags_at s text true from
      ≡ record { start = r.at; end = r.next + width_of (run_of s (characters_at text r.next)) } ∷ hashtags_at s text true r.next

pub record NoneFound (s text : List ℕ) (from at : ℕ) : Type 0 where
  pub above : from ≤ at
  pub within : at ≤ length text
  pub form : shift at (text_of (drop at text)) ≡ shift from (text_of (drop from text))
  pub none : hashtags_at s text true from ≡ []
  pub ill_head : at < length text → IllHead (drop at text)

abbrev pub Sought : List ℕ → List ℕ → ℕ → Result Sign ℕ → Type 0
Sought s text from (Ok r) = SignFound s text from r
Sought s text from (Err at) = NoneFound s text from at
