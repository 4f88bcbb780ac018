-- `hashtag::Reader::seek_known` meets its contract. Assumes nothing.
use Rattle.std.proofs.Common.{arith}
use Rattle.line.proofs.LineLaws.{line_few}
use Rattle.hashtag.proofs.SeekLaws.{Stands, stands_sign}
use Rattle.hashtag.proofs.CountedLaws.{counted_on}
use Rattle.hashtag.proofs.KnownLaws.{Walked, walked_begins, walked_bytes, stands_here, known_end, known_some, known_over, known_passes, line_fits}
use Rattle.hashtag.proofs.Reader.seek_known.Goals as goal
use Rattle.hashtag.proofs.Reader.seek_known.Goals.{After-measure_known-len, After-pass_bytes-stop, else-is_sign_at-via-then-is_sign_at+else-begins, else-is_sign_at-via-else-is_sign_at}

pub loop-at-init : goal.loop-at-init
loop-at-init c = walked_begins _ _ c.requires.from_in_bounds.0 c.requires.line_at

pub pass_fours-near-requires-clause-first_bound : goal.pass_fours-near-requires-clause-first_bound
pass_fours-near-requires-clause-first_bound c = omega (arith, line_few c.loop-at.invariant.lined)

pub pass_bytes-stop-requires-clause-first_bound : goal.pass_bytes-stop-requires-clause-first_bound
pass_bytes-stop-requires-clause-first_bound c = omega (arith, line_few c.loop-at.invariant.lined)

-- what was passed over
walked : (c : goal.After-pass_bytes-stop)
    → let a = c.args in
    Walked a.self.image.now a.self.text.now a.from c.pass_bytes-stop.result.at c.pass_bytes-stop.result.line
walked c =
    walked_bytes _ _ _ c.requires.from_in_bounds.1 c.loop-at.invariant
    (counted_on c.pass_fours-near.ensures c.pass_bytes-stop.ensures.counted) c.pass_bytes-stop.ensures.stop

-- a character stands where the search stops
standing : (c : goal.After-measure_known-len)
    → let a = c.args in
    let r = c.pass_bytes-stop.result in
    Walked a.self.image.now a.self.text.now a.from r.at r.line → Stands a.self.image.now a.self.text.now r.at c.measure_known-len.result
standing c i = stands_here _ _ _ c.requires.from_in_bounds.1 _ i c.if-self-at.false c.measure_known-len.ensures

pub returns-then-self-at-clause-sought : goal.returns-then-self-at-clause-sought
returns-then-self-at-clause-sought c = known_end _ _ (walked (goal.at.returns-then-self-at-clause-sought c).After-pass_bytes-stop) c.if-self-at.true

pub overflow_add-sign : goal.overflow_add-sign
overflow_add-sign c =
    let s = standing (goal.at.overflow_add-sign c).After-measure_known-len (walked (goal.at.overflow_add-sign c).After-pass_bytes-stop) in
    omega (arith, s.here.within)

pub returns-then-begins : goal.returns-then-begins
returns-then-begins c =
    let i = walked (goal.at.returns-then-begins c).After-pass_bytes-stop in
    let s = standing (goal.at.returns-then-begins c).After-measure_known-len i in
    let t = known_some _ _ i s c.step_back.ensures (stands_sign _ _ s c.is_sign_at.ensures c.if-is_sign_at.true) c.begins.ensures c.if-begins.true in
    record { sought = t.0; line_at_2 = t.1 }

pub overflow_add-line : goal.overflow_add-line
overflow_add-line c =
    let i = walked (goal.at.overflow_add-line c).After-pass_bytes-stop in
    let s = standing (goal.at.overflow_add-line c).After-measure_known-len i in
    omega (arith, line_fits _ _ i s c.count_at-line.ensures)

pub loop-at-smaller : goal.loop-at-smaller
loop-at-smaller c =
    let i = walked (goal.at.loop-at-smaller c).After-pass_bytes-stop in
    let h = (standing (goal.at.loop-at-smaller c).After-measure_known-len i).here in
    omega (arith, h.some_bytes, h.within)

pub loop-at-preserved : goal.loop-at-preserved
loop-at-preserved c =
    let i = walked (goal.at.loop-at-preserved c).After-pass_bytes-stop in
    let s = standing (goal.at.loop-at-preserved c).After-measure_known-len i in
    elim c.else-is_sign_at.branch [
      | else-is_sign_at-via-then-is_sign_at+else-begins w ↦
          known_over _ _ i s w.step_back.ensures c.count_at-line.ensures w.begins.ensures w.if-begins.false
      | else-is_sign_at-via-else-is_sign_at w ↦ known_passes _ _ i s c.count_at-line.ensures (stands_sign _ _ s c.is_sign_at.ensures w.if-is_sign_at.false)
    ]

pub returns-clause-sought : goal.returns-clause-sought
returns-clause-sought c = known_end _ _ c.loop-at.invariant c.loop-at-test.false
