-- `hashtag::Reader::find_run_end` meets its contract. Assumes nothing.
use Rattle.std.proofs.Common.{sym, ◌∙◌, arith}
use Rattle.hashtag.proofs.SeekLaws.{read_continues, run_ill, run_end, run_stops, run_goes}
use Rattle.hashtag.proofs.Reader.find_run_end.Goals as goal
use Rattle.hashtag.proofs.Reader.find_run_end.Goals.{then-c-eq0-via-then-c-eq0, then-c-eq0-via-else-c-eq0+then-not-continues}

pub overflow_add-at : goal.overflow_add-at
overflow_add-at c =
    let r = read_continues _ _ _ _ c.recall.ensures c.loop-at-test.true c.read-c.ensures (omega arith) in
    omega (arith, r.0.within)

pub loop-at-preserved : goal.loop-at-preserved
loop-at-preserved c =
    let r = read_continues _ _ _ _ c.recall.ensures c.loop-at-test.true c.read-c.ensures (omega arith) in
    (run_goes _ _ c.loop-at.invariant.0 r.0 (sym r.1 ∙ sym c.continues.ensures ∙ c.if-not-continues.false), c.read-c.ensures.memo)

pub returns-after-loop-at : goal.returns-after-loop-at
returns-after-loop-at c = run_end _ _ c.loop-at.invariant.0 c.loop-at-test.false

pub returns-then-c-eq0 : goal.returns-then-c-eq0
returns-then-c-eq0 c =
    elim c.then-c-eq0.branch [
      | then-c-eq0-via-then-c-eq0 w ↦ run_ill _ _ c.loop-at.invariant.0 (c.read-c.ensures.none w.if-c-eq0.true)
      | then-c-eq0-via-else-c-eq0+then-not-continues w ↦
          let r = read_continues _ _ _ _ c.recall.ensures c.loop-at-test.true c.read-c.ensures (omega arith) in
          run_stops _ _ c.loop-at.invariant.0 (sym r.1 ∙ sym w.continues.ensures ∙ w.if-not-continues.true)
    ]
