-- What is judged before a text is read (docs/RULES.md, "Named refusals"): what is given with it, then its length.
-- `limit` is how many profile entries an image may have; the names without `_within` have the limit in force.
use Rattle.std.specs.Prelude.{ℕ, ◌≤◌, ◌<◌, List, length, ltb}
use Rattle.std.proofs.Math.Option.{Option, none, some}
use Rattle.refusal.specs.declared.Refusal.{Refusal}
use Rattle.refusal.specs.declared.Refusal.TheVariants as refusal
use Rattle.refusal.specs.Outcome.{or_else, refused_if}
use Rattle.image.specs.Limits.{max_entries}
use Rattle.image.specs.Check.{refusal_within}
use Rattle.image.specs.Accepted.{Accepted}
use Rattle.image.specs.Means.{RefusalMeans}

-- a text has at most so many bytes
abbrev pub max_text : ℕ
max_text = 1048576

-- 5: the text has more than `most` bytes
unfoldable pub length_refusal : ℕ → List ℕ → Option Refusal
length_refusal most text = refused_if (ltb most (length text)) refusal.TextLength

-- 1 to 4 of the image, then 5
unfoldable pub before_within : ℕ → ℕ → List ℕ → List ℕ → Option Refusal
before_within limit most s text = or_else (refusal_within limit s) (length_refusal most text)

abbrev pub before_text : ℕ → List ℕ → List ℕ → Option Refusal
before_text most s text = before_within max_entries most s text

-- what each of them means
pub data BeforeMeans (most : ℕ) (s text : List ℕ) : Option Refusal → Type 0 where
  -- 1 to 4: those of the image
  of_image : {r : Refusal} → RefusalMeans s (some r) → BeforeMeans most s text (some r)
  -- 5: the text is too long
  too_long : Accepted s → most < length text → BeforeMeans most s text (some refusal.TextLength)
  -- none
  allowed : Accepted s → length text ≤ most → BeforeMeans most s text none
