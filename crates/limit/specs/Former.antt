-- The limit of the readers before, and what a reader refuses an image with that has more profile entries than it allows
-- (docs/RULES.md, "Readers with a lower limit"). Every definition that depends on the limit has it as a parameter; `max_entries` is in force.
use Rattle.std.specs.Prelude.{ℕ, cond, List, length, ltb}
use Rattle.refusal.specs.declared.Refusal.{Refusal}
use Rattle.refusal.specs.declared.Refusal.TheVariants as refusal
use Rattle.image.specs.Limits.{largest_within}

abbrev pub former_entries : ℕ
former_entries = 64

-- 1 where the image is longer than the largest that it allows, else 2
unfoldable pub refusal_above : ℕ → List ℕ → Refusal
refusal_above limit s = cond (ltb (largest_within limit) (length s)) refusal.Length refusal.Header
