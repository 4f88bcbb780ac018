-- `hashtag::Reader::seek` meets its contract. Assumes nothing.
use Rattle.std.proofs.Common.{sym, ◌∙◌, inl, inr, arith}
use Rattle.hashtag.proofs.SeekLaws.{seeking_plain, seeking_over, sought_ill, sought_end, sought_some, measured_none, Stands, stands, stands_sign}
use Rattle.hashtag.proofs.Reader.seek.Goals as goal
use Rattle.hashtag.proofs.Reader.seek.Goals.{Else-len-eq0, else-is_sign_at-via-then-is_sign_at+else-begins, else-is_sign_at-via-else-is_sign_at}

pub loop-at-preserved-then-at-past : goal.loop-at-preserved-then-at-past
loop-at-preserved-then-at-past c = seeking_plain _ _ c.loop-at.invariant c.skip-past.ensures c.if-at-past.true

pub returns-then-len-eq0 : goal.returns-then-len-eq0
returns-then-len-eq0 c = sought_ill _ _ c.loop-at.invariant (measured_none _ _ _ c.loop-at-test.true c.measure-len.ensures c.if-len-eq0.true)

-- a character stands at the place
standing : (c : goal.Else-len-eq0)
    → let a = c.args in
    Stands a.self.image.now a.self.text.now c.loop-at.at c.measure-len.result
standing c = stands _ _ _ _ c.loop-at-test.true c.measure-len.ensures c.if-len-eq0.false

pub overflow_add-sign : goal.overflow_add-sign
overflow_add-sign c = omega (arith, (standing c).here.within)

pub returns-then-begins : goal.returns-then-begins
returns-then-begins c =
    let s = standing (goal.at.returns-then-begins c).Else-len-eq0 in
    sought_some _ _ c.loop-at.invariant s.here (stands_sign _ _ s c.is_sign_at.ensures c.if-is_sign_at.true) (sym c.begins.ensures ∙ c.if-begins.true)

pub loop-at-preserved : goal.loop-at-preserved
loop-at-preserved c =
    let s = standing (goal.at.loop-at-preserved c).Else-len-eq0 in
    elim c.else-is_sign_at.branch [
      | else-is_sign_at-via-then-is_sign_at+else-begins w ↦ seeking_over _ _ c.loop-at.invariant s.here (inr (sym w.begins.ensures ∙ w.if-begins.false))
      | else-is_sign_at-via-else-is_sign_at w ↦
          seeking_over _ _ c.loop-at.invariant s.here (inl (stands_sign _ _ s c.is_sign_at.ensures w.if-is_sign_at.false))
    ]

pub returns : goal.returns
returns c = sought_end _ _ c.loop-at.invariant c.loop-at-test.false
