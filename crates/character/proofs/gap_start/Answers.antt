-- `character::gap_start` meets its contract. Assumes nothing.
use mathlib.Core.Path.{ap}
use native.Mathlib.Omega.{arith}
use Rattle.image.specs.declared.Range.{Range}
use Rattle.character.proofs.gap_start.Goals as goal

pub overflow_add-result : goal.overflow_add-result
overflow_add-result c = let e = ap (λ (r : Range). r.last) c.record_at.ensures in omega (arith, c.requires.passed.before (omega arith))

pub returns-else-i-eq0 : goal.returns-else-i-eq0
returns-else-i-eq0 c =
    let e = ap (λ (r : Range). r.last) c.record_at.ensures in
    let h = c.requires.passed.before (omega arith) in
    (omega arith, λ _. omega arith)
