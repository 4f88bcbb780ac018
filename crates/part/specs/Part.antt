-- A token's bytes: 13, or that part of the text (docs/RULES.md, "Tokens" and "Named refusals").
use Rattle.std.specs.Prelude.{ℕ, ◌+◌, ◌-◌, ◌<◌, ◌≡◌, List, [], ◌++◌, ◌⊎◌, length, take, drop, ltb, Result, Ok, Err}
use Rattle.std.specs.Borrow.{Bor}
use Rattle.refusal.specs.declared.Refusal.{Refusal}
use Rattle.refusal.specs.declared.Refusal.TheVariants as refusal
use Rattle.refusal.specs.Outcome.{Outcome, given, refused, unless, refused_if}

-- 13 where the start is after the end, or the end past the text's end; else the part
unfoldable pub part_of : List ℕ → ℕ → ℕ → Outcome (List ℕ)
part_of text start end =
    unless (refused_if (ltb end start) refusal.Shape)
    (unless (refused_if (ltb (length text) end) refusal.Shape) (given (take (end - start) (drop start text))))

-- the part; empty where it is refused
abbrev pub bytes_by : Outcome (List ℕ) → List ℕ
bytes_by (given b) = b
bytes_by (refused r) = []

abbrev pub part_bytes : List ℕ → ℕ → ℕ → List ℕ
part_bytes text start end = bytes_by (part_of text start end)

-- what a call's result says
abbrev pub outcome_by : Result (Bor (List ℕ)) Refusal → Outcome (List ℕ)
outcome_by (Ok part) = given part.now
outcome_by (Err r) = refused r

-- what each answer means
pub data PartMeans (text : List ℕ) (start end : ℕ) : Outcome (List ℕ) → Type 0 where
  misplaced : (end < start) ⊎ (length text < end) → PartMeans text start end (refused refusal.Shape)
  part : (before bytes after : List ℕ) → text ≡ before ++ (bytes ++ after) → start ≡ length before → end ≡ length before + length bytes → PartMeans text start end (given bytes)
