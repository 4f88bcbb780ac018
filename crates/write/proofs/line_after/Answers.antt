-- `write::line_after` meets its contract. Assumes nothing.
use Prim.Native.Nat.{ℕ, ◌+◌}
use mathlib.Core.Path.{◌≡◌, refl, subst}
use native.Mathlib.Omega.{arith}
use Rattle.line.specs.Line.{LineAt}
use Rattle.write.proofs.SpanLaws.{span_rises, span_some, span_step, span_feed}
use Rattle.line.proofs.LineLaws.{line_few}
use Rattle.write.proofs.line_after.Goals as goal

pub bounds-text-start : goal.bounds-text-start
bounds-text-start c = span_some c.requires.line_at c.requires.spans (omega (arith, span_rises c.requires.line_at c.requires.spans))

pub overflow_add-result : goal.overflow_add-result
overflow_add-result c = omega (arith, line_few c.requires.line_at)

pub returns-then-text-start-eq-LINE_FEED : goal.returns-then-text-start-eq-LINE_FEED
returns-then-text-start-eq-LINE_FEED c =
    let e : c.args.start + 1 ≡ c.args.end = omega (arith, span_rises c.requires.line_at c.requires.spans) in
    subst (λ (n : ℕ). LineAt c.args.text.now n (c.args.line + 1)) e (span_feed c.requires.line_at c.requires.spans (omega arith) c.if-text-start-eq-LINE_FEED.true)

pub count_at-now-requires : goal.count_at-now-requires
count_at-now-requires c = span_some c.loop-at.invariant.0 c.loop-at.invariant.1 c.loop-at-test.true

pub overflow_add-now : goal.overflow_add-now
overflow_add-now c =
    let t = span_step c.loop-at.invariant.0 c.loop-at.invariant.1 c.loop-at-test.true _ _ refl c.count_at-now.ensures in
    omega (arith, t.few)

pub bounds-text-at : goal.bounds-text-at
bounds-text-at c = span_some c.loop-at.invariant.0 c.loop-at.invariant.1 c.loop-at-test.true

pub overflow_add-at : goal.overflow_add-at
overflow_add-at c =
    let t = span_step c.loop-at.invariant.0 c.loop-at.invariant.1 c.loop-at-test.true _ _ c.measure_known-at.ensures c.count_at-now.ensures in
    omega (arith, t.within)

pub loop-at-smaller : goal.loop-at-smaller
loop-at-smaller c =
    let t = span_step c.loop-at.invariant.0 c.loop-at.invariant.1 c.loop-at-test.true _ _ c.measure_known-at.ensures c.count_at-now.ensures in
    omega (arith, t.within, t.some)

pub loop-at-preserved : goal.loop-at-preserved
loop-at-preserved c =
    let t = span_step c.loop-at.invariant.0 c.loop-at.invariant.1 c.loop-at-test.true _ _ c.measure_known-at.ensures c.count_at-now.ensures in
    (t.lined, t.spans)
