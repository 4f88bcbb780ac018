-- `count::finish` meets its contract. Assumes nothing.
use Prim.Native.Nat.{ℕ, ◌+◌}
use mathlib.Core.Path.{ap}
use native.Mathlib.Omega.{arith}
use borrow.Author.Tests.{eq-eqb, ne_eqb, lt-ltb, le-ltb}
use Rattle.std.specs.Prelude.{Ok, Err}
use Rattle.count.specs.Turns.{count_waiting}
use Rattle.count.proofs.CountLaws.{pending_two}
use Rattle.count.proofs.finish.Goals as goal

pub returns-then-run-eq-WAITING : goal.returns-then-run-eq-WAITING
returns-then-run-eq-WAITING c = rw (eq-eqb _ count_waiting c.if-run-eq-WAITING.true) (ap Err c.refuse_at.ensures)

pub returns-then-run-text : goal.returns-then-run-text
returns-then-run-text c = rw (ne_eqb _ count_waiting c.if-run-eq-WAITING.false, lt-ltb _ _ c.if-run-text.true)

pub overflow_add-result : goal.overflow_add-result
overflow_add-result c = omega (arith, c.count_pending.ensures, pending_two c.args.run.state, c.requires)

pub returns : goal.returns
returns c =
    rw (ne_eqb _ count_waiting c.if-run-eq-WAITING.false, le-ltb _ _ c.if-run-text.false)
    (ap (λ (n : ℕ). Ok (c.args.run.count + n)) c.count_pending.ensures)
