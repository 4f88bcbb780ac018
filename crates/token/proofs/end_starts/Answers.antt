-- `token::end_starts` meets its contract. Assumes nothing.
use mathlib.Core.Path.{sym, subst, ap, ◌∙◌}
use Prim.Native.Nat.{◌+◌, ◌-◌, ◌*◌}
use native.Mathlib.Omega.{arith}
use lib.ListN.{length, set, length-set}
use Rattle.count.specs.Turns.{count_waiting}
use Rattle.count.specs.Rules.{traits_for}
use Rattle.token.specs.Ended.{Ended}
use Rattle.token.proofs.EndLaws.{ended_plain, ended_waiting}
use Rattle.token.proofs.end_starts.Goals as goal

pub put_start-requires : goal.put_start-requires
put_start-requires c = (omega (arith, c.requires.marking.room), c.requires.text_len_bound, omega arith)

pub returns-then-run-le-WAITING : goal.returns-then-run-le-WAITING
returns-then-run-le-WAITING c = let l = ap length c.put_start.ensures ∙ length-set c.args.starts.now (c.args.run.count - c.args.done + 1) (16 * length c.args.text.now + traits_for 0) in record { ended = subst (λ xs. Ended c.args.image.now c.args.text.now xs c.args.done (c.args.run.count - c.args.done + 1)) (sym c.put_start.ensures) (ended_plain c.requires.marking c.requires.text_len_bound_2 c.if-run-le-WAITING.true); upper_bound = (omega (arith, c.requires.marking.room, l), l) }

pub put_start-requires-2 : goal.put_start-requires-2
put_start-requires-2 c = (omega (arith, c.requires.marking.room), omega (arith, c.requires.text_len_bound, c.requires.marking.counting.counting.reached.medial.within), omega (arith, c.requires.marking.counting.counting.less))

pub put_start-requires-3 : goal.put_start-requires-3
put_start-requires-3 c = let l = ap length c.put_start-2.ensures ∙ length-set c.args.starts.now (c.args.run.count - c.args.done + 1) (16 * c.args.run.mid + traits_for (c.args.run.state - count_waiting)) in (omega (arith, c.requires.marking.room, l), c.requires.text_len_bound, omega arith)

pub overflow_add-result : goal.overflow_add-result
overflow_add-result c = omega (arith, c.requires.marking.room)

pub returns : goal.returns
returns c =
    let e = c.put_start-3.ensures ∙ ap (λ xs. set xs ((c.args.run.count - c.args.done + 1) + 1) (16 * length c.args.text.now + traits_for 0)) c.put_start-2.ensures in
    let l = ap length e ∙ length-set (set c.args.starts.now (c.args.run.count - c.args.done + 1) (16 * c.args.run.mid + traits_for (c.args.run.state - count_waiting))) ((c.args.run.count - c.args.done + 1) + 1) (16 * length c.args.text.now + traits_for 0) ∙ length-set c.args.starts.now (c.args.run.count - c.args.done + 1) (16 * c.args.run.mid + traits_for (c.args.run.state - count_waiting)) in record { ended = subst (λ xs. Ended c.args.image.now c.args.text.now xs c.args.done ((c.args.run.count - c.args.done + 1) + 1)) (sym e) (ended_waiting c.requires.marking c.requires.text_len_bound_2 c.if-run-le-WAITING.false); upper_bound = (omega (arith, c.requires.marking.room, l), l) }
