-- What stands at the head of a text, by the rows of Table 3-7 (docs/RULES.md, "UTF-8 by its first byte").
use Rattle.std.specs.Prelude.{ℕ, ◌<◌, ◌≡◌, cond, List, [], ◌∷◌, ◌++◌, length, take}
use Rattle.utf8.specs.declared.Step.{Step}
use Rattle.utf8.specs.declared.Step.TheVariants.{Scalar, IllFormed, End}
use Rattle.utf8.specs.Table.{Row, rows, fits, Sequence}
use Rattle.utf8.specs.Encoding.{code_point}
use Rattle.utf8.specs.Subpart.{subpart_of, MaximalSubpart}

-- the first row whose bytes begin the text gives the sequence; no row: ill-formed, with the length of the maximal subpart
abbrev pub step_in : List Row → List ℕ → Step
step_in [] s = IllFormed (subpart_of s)
step_in (r ∷ rs) s = cond (fits r s) (Scalar (code_point (take (length r) s)) (length r)) (step_in rs s)

-- the code point and length of the sequence at the head of a text; or that none begins there, with the length of the maximal subpart;
-- or that nothing is left
unfoldable pub step_of : List ℕ → Step
step_of [] = End
step_of (b ∷ s) = step_in rows (b ∷ s)

-- ill-formed at the head
abbrev pub IllHead : List ℕ → Type 0
IllHead s = step_of s ≡ IllFormed (subpart_of s)

-- no well-formed sequence begins the text
abbrev pub NoSequence : List ℕ → Type 0
NoSequence s = (q r : List ℕ) → s ≡ q ++ r → Sequence q → ⊥

-- what `step_of` means: a sequence q of the table begins the text, x its code point and n its length; none does, and n is the length of
-- the maximal subpart; nothing is left
pub data StepMeans (s : List ℕ) : Step → Type 0 where
  sequence : {x n : ℕ} (q r : List ℕ) → s ≡ q ++ r → Sequence q → x ≡ code_point q → n ≡ length q → StepMeans s (Scalar x n)
  no_sequence : {n : ℕ} → 0 < length s → NoSequence s → MaximalSubpart s n → StepMeans s (IllFormed n)
  empty : s ≡ [] → StepMeans s End
