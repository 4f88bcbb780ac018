-- What a lent buffer holds after a call that wrote to it (docs/RULES.md, "The calls").
use Rattle.std.specs.Prelude.{ℕ, ◌+◌, List, ◌++◌, length, take, drop}

-- the buffer `out` with the values `ws` from place `at` on; all before and after stay as they were
abbrev pub laid : List ℕ → ℕ → List ℕ → List ℕ
laid out at ws = take at out ++ ws ++ drop (at + length ws) out
