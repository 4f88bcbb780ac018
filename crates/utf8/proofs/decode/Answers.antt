-- `utf8::decode` meets its contract: nothing is left, or what the packed sequence tells. Assumes nothing.
use mathlib.Core.Bool.{false}
use mathlib.Core.List.{List}
use mathlib.Core.Path.{◌≡◌, sym, ap, ◌∙◌}
use Prim.Native.Nat.{ℕ}
use native.Mathlib.Omega.{arith}
use borrow.Author.Tests.{eqb-true, eqb-false}
use lib.Dec.{eqb}
use lib.ListN.{length}
use Rattle.utf8.specs.declared.Step.TheVariants.{IllFormed}
use Rattle.utf8.specs.Head.{step_of}
use Rattle.utf8.specs.Lead.{packed}
use Rattle.utf8.proofs.LeadLaws.{at_end}
use Rattle.utf8.proofs.TextLaws.{Unpacked, unpacked}
use Rattle.utf8.proofs.decode.Goals as goal

told : {s : List ℕ} {d : ℕ} → d ≡ packed (step_of s) → eqb (length s) 0 ≡ false → Unpacked s d
told {s} {d} e f = unpacked s d e (omega (arith, eqb-false (length s) 0 f))

pub returns-then-is_empty : goal.returns-then-is_empty
returns-then-is_empty c = at_end _ (eqb-true _ 0 (sym c.is_empty.ensures ∙ c.if-is_empty.true))

pub measure_subpart-requires : goal.measure_subpart-requires
measure_subpart-requires c = (told c.pack-d.ensures (sym c.is_empty.ensures ∙ c.if-is_empty.false)).none c.in-0.is

pub returns-in-0 : goal.returns-in-0
returns-in-0 c = ap IllFormed c.measure_subpart.ensures ∙ sym ((told c.pack-d.ensures (sym c.is_empty.ensures ∙ c.if-is_empty.false)).none c.in-0.is)

pub overflow_cast-result : goal.overflow_cast-result
overflow_cast-result c = omega (arith, (told c.pack-d.ensures (sym c.is_empty.ensures ∙ c.if-is_empty.false)).small)

pub returns-in_default : goal.returns-in_default
returns-in_default c = sym ((told c.pack-d.ensures (sym c.is_empty.ensures ∙ c.if-is_empty.false)).some (omega arith))
