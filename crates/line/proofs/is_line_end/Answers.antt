-- `line::is_line_end` meets its contract. Assumes nothing.
use Prim.Native.Nat.{ℕ, ◌≤◌}
use mathlib.Core.Bool.{false}
use mathlib.Core.Path.{◌≡◌, sym}
use native.Mathlib.Omega.{arith}
use Rattle.line.specs.Line.{is_line_end}
use Rattle.line.proofs.LineLaws.{LineEnd, low, next, separator, no_line_end, is_line_end_lem}
use Rattle.line.proofs.is_line_end.Goals as goal

outside : (x : ℕ) → (0x0A ≤ x → x ≤ 0x0D → ⊥) → (x ≡ 0x85 → ⊥) → (0x2028 ≤ x → x ≤ 0x2029 → ⊥) → false ≡ is_line_end x
outside x a b d = sym (no_line_end x none)
  where
    none : LineEnd x → ⊥
    none (low h l) = a h l
    none (next e) = b e
    none (separator h l) = d h l

pub returns-in_default : goal.returns-in_default
returns-in_default c = outside _ (λ h l. omega arith) (λ e. omega arith) (λ h l. omega arith)

pub returns-in_default-2 : goal.returns-in_default-2
returns-in_default-2 c = outside _ (λ h l. omega arith) (λ e. omega arith) (λ h l. omega arith)

pub returns-in_default-3 : goal.returns-in_default-3
returns-in_default-3 c = outside _ (λ h l. omega arith) (λ e. omega arith) (λ h l. omega arith)

pub returns-in-10-to-13 : goal.returns-in-10-to-13
returns-in-10-to-13 c = sym (is_line_end_lem _ (next (omega arith)))

pub returns-in-10-to-13-2 : goal.returns-in-10-to-13-2
returns-in-10-to-13-2 c = sym (is_line_end_lem _ (low (omega arith) (omega arith)))

pub returns-in-10-to-13-3 : goal.returns-in-10-to-13-3
returns-in-10-to-13-3 c = sym (is_line_end_lem _ (separator (omega arith) (omega arith)))
