-- Inner: no public statement cites this file.
-- What the first byte of a character tells of line ends (docs/RULES.md, "Lines").
use Rattle.std.specs.Prelude.{ℕ, ◌+◌, cond, List, ltb, eqb, drop}
use Rattle.utf8.specs.declared.Step.{Step}
use Rattle.utf8.specs.declared.Step.TheVariants.{Scalar, IllFormed, End}
use Rattle.utf8.specs.Head.{step_of}
use Rattle.utf8.specs.Text.{characters_at}
use Rattle.line.specs.Line.{one, ends_line}

-- the code point is to be looked at
abbrev pub look : ℕ
look = 8

-- no line ends with the character, 0; one does, 1; or `look`
unfoldable pub end_of : ℕ → ℕ
end_of b = cond (ltb b 0x0A) 0 (cond (ltb b 0x0D) 1 (cond (eqb b 0x0D) look (cond (eqb b 0xC2) look (cond (eqb b 0xE2) look 0))))

-- 1 where a line ends with the character at a place, else 0
abbrev pub end_by : List ℕ → ℕ → Step → ℕ
end_by text at (Scalar x n) = one (ends_line x (characters_at text (at + n)))
end_by text at (IllFormed n) = 0
end_by text at End = 0

unfoldable pub end_at : List ℕ → ℕ → ℕ
end_at text at = end_by text at (step_of (drop at text))
