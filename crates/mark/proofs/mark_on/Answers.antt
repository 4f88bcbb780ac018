-- `mark::mark_on` meets its contract. Assumes nothing.
use mathlib.Core.Path.{refl, sym, subst, ◌∙◌}
use mathlib.Core.Logic.{inl, inr}
use native.Mathlib.Omega.{arith}
use Rattle.std.proofs.lemmas.Result.{err_from_is_err_and}
use Rattle.blocks.specs.Blocks.{Learning}
use Rattle.count.proofs.CountLaws.{counting_few}
use Rattle.mark.proofs.MarkLaws.{putting, marks_on}
use Rattle.mark.proofs.mark_on.Goals as goal

pub loop-run-init : goal.loop-run-init
loop-run-init c = (c.requires.marking, c.requires.learning, refl, refl, refl)

pub run_mark-run-requires : goal.run_mark-run-requires
run_mark-run-requires c = record { cached = c.loop-run.invariant.1.cached; text_len_bound = c.requires.text_len_bound; marking = c.loop-run.invariant.0 }

pub overflow_sub-run : goal.overflow_sub-run
overflow_sub-run c = omega (arith, c.run_mark-run.ensures.0.from)

pub overflow_add-run : goal.overflow_add-run
overflow_add-run c = omega (arith, counting_few c.run_mark-run.ensures.0.counting.counting, c.requires.text_len_bound)

pub look-requires : goal.look-requires
look-requires c = record { token_table_of = c.loop-run.invariant.1.cached.ascii; counting_as = c.run_mark-run.ensures.0.counting; at_in_bounds = c.if-text-run.false }

pub returns-in_err-next : goal.returns-in_err-next
returns-in_err-next c =
    let p = err_from_is_err_and c.from_residual.result c.from_residual.ensures.1 in
    rw (p.1, p.2) (record { marked = (c.in_err-next.ensures, c.run_mark-run.ensures.4 ∙ c.loop-run.invariant.4); learning_on = tt })

pub put_starts-requires : goal.put_starts-requires
put_starts-requires c = record { putting = putting c.run_mark-run.ensures.0 c.in_ok-next.ensures c.requires.text_len_bound }

pub learn_at-rows-requires : goal.learn_at-rows-requires
learn_at-rows-requires c = record { fits = c.loop-run.invariant.1.cached.fits; at_in_bounds = c.if-text-run.false }

pub loop-run-smaller : goal.loop-run-smaller
loop-run-smaller c = omega (arith, c.in_ok-next.ensures.on, c.run_mark-run.ensures.1, c.if-text-run.false)

pub loop-run-preserved : goal.loop-run-preserved
loop-run-preserved c =
    let n = c.learn_at-rows.ensures.by_index _ c.recall.ensures c.in_ok-next.ensures.memo (subst (Learning _ _ _) (sym c.run_mark-run.ensures.3) c.loop-run.invariant.1) in (
      marks_on c.run_mark-run.ensures.0 c.in_ok-next.ensures _ c.if-starts-run.false (c.put_starts.ensures.0 _ _ c.run_mark-run.ensures.0 c.in_ok-next.ensures) c.put_starts.ensures.1,
      n,
      omega arith,
      omega arith,
      c.put_starts.ensures.1 ∙ c.run_mark-run.ensures.4 ∙ c.loop-run.invariant.4,
    )

pub returns-after-loop-run : goal.returns-after-loop-run
returns-after-loop-run c = record { marked = (record { marking = c.loop-run.invariant.0; far = inl c.loop-run-test.false }, c.loop-run.invariant.4); learning_on = c.loop-run.invariant.1 }

pub returns-then-text-run : goal.returns-then-text-run
returns-then-text-run c = record { marked = (record { marking = c.run_mark-run.ensures.0; far = inl c.if-text-run.true }, c.run_mark-run.ensures.4 ∙ c.loop-run.invariant.4); learning_on = subst (Learning _ _ _) (sym c.run_mark-run.ensures.3) c.loop-run.invariant.1 }

pub returns-then-starts-run : goal.returns-then-starts-run
returns-then-starts-run c = record { marked = (record { marking = c.run_mark-run.ensures.0; far = inr c.if-starts-run.true }, c.run_mark-run.ensures.4 ∙ c.loop-run.invariant.4); learning_on = subst (Learning _ _ _) (sym c.run_mark-run.ensures.3) c.loop-run.invariant.1 }
