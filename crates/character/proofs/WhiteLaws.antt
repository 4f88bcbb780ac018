-- The line ends of ASCII have one kind of White. Assumes nothing.
use Prim.Native.Nat.{ℕ, ◌≤◌, ◌<◌}
use mathlib.Core.Path.{◌≡◌}
use mathlib.Core.Bool.{true}
use native.Mathlib.Omega.{arith}
use native.Mathlib.Decide.{dec_lt}
use Rattle.lists.proofs.BoolLaws.{impossible}
use Rattle.line.specs.Line.{is_line_end}
use Rattle.line.proofs.LineLaws.{LineEnd, low, next, separator, no_line_end, is_line_end_lem}
use Rattle.grammar.specs.White.{white_of}
use Rattle.character.specs.Traits.{white_part}
use Rattle.character.specs.Stretch.{WhiteStretchOf}

line_end_part : (x : ℕ) → is_line_end x ≡ true → white_part (white_of x) ≡ 6
unfolding white_of
line_end_part x e = rw e

-- the line ends of ASCII
pub line_ends : (x : ℕ) → is_line_end x ≡ true → x ≤ 0x0D → WhiteStretchOf x (record { first = 0x0A; last = 0x0D; class = 6 })
line_ends x e h = record { from = from (dec_lt x 0x0A); to = h; same = λ y l u. line_end_part y (is_line_end_lem y (low l u)) }
  where
    none : x < 0x0A → LineEnd x → ⊥
    none u (low a b) = omega arith
    none u (next q) = omega arith
    none u (separator a b) = omega arith

    from : Dec (x < 0x0A) → 0x0A ≤ x
    from (yes u) = impossible (cc (no_line_end x (none u)))
    from (no u) = omega arith
