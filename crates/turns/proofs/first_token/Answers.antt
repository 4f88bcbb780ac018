-- `turns::first_token` meets its contract. Assumes nothing.
use mathlib.Core.Path.{◌≡◌, ◌∙◌}
use native.Mathlib.Omega.{arith}
use Rattle.turns.proofs.ReachLaws.{Here, here, here_small, Look, at_ill, at_end}
use Rattle.turns.proofs.FirstTokenLaws.{searching_begins, searching_less, first_ill, first_nothing, first_last, searching_on, searching_waits, first_ends}
use Rattle.turns.proofs.first_token.Goals as goal
use Rattle.turns.proofs.first_token.Goals.{After-find_turn, Else-c-eq0, in-0, in-2}

-- the character that was read stands at the place
stands : (c : goal.Else-c-eq0)
    → let a = c.args in
    let r = c.read_for_tokens-c.result in
    Here a.image.now a.text.now c.loop-at.at r.len r.traits
stands c = here _ _ _ _ c.loop-at-test.true c.read_for_tokens-c.ensures (omega arith)

looked : (c : goal.After-find_turn)
    → let a = c.args in
    let l = c.loop-at in
    let r = c.read_for_tokens-c.result in
    Here a.image.now a.text.now l.at r.len r.traits → Look a.image.now a.text.now l.state l.at r.len r.traits c.find_turn.result
looked c h = record { accepted = c.recall.ensures; here = h; known = c.find_turn.ensures }

pub loop-at-init : goal.loop-at-init
loop-at-init c = (searching_begins _ _, c.no_memo-memo.ensures _)

pub returns-then-at-eq0 : goal.returns-then-at-eq0
returns-then-at-eq0 c = first_ill c.loop-at.invariant.0 (c.read_for_tokens-c.ensures.none c.if-c-eq0.true) c.if-at-eq0.true

pub returns-else-at-eq0 : goal.returns-else-at-eq0
returns-else-at-eq0 c =
    let e = at_ill _ _ (c.read_for_tokens-c.ensures.none c.if-c-eq0.true) in
    c.end_first.ensures ∙ first_last c.loop-at.invariant.0 e c.if-at-eq0.false

pub find_turn-requires : goal.find_turn-requires
find_turn-requires c = (searching_less c.loop-at.invariant.0, here_small c.recall.ensures (stands (goal.at.find_turn-requires c).Else-c-eq0))

pub state_after-state-requires : goal.state_after-state-requires
state_after-state-requires c = here_small c.recall.ensures (stands (goal.at.state_after-state-requires c).Else-c-eq0)

pub waiting_after-state-requires : goal.waiting_after-state-requires
waiting_after-state-requires c = here_small c.recall.ensures (stands (goal.at.waiting_after-state-requires c).Else-c-eq0)

pub returns-in_default : goal.returns-in_default
returns-in_default c =
    let k = looked (goal.at.returns-in_default c).After-find_turn (stands (goal.at.returns-in_default c).Else-c-eq0) in
    let n : c.find_turn.result ≡ 0 → ⊥ = λ z. omega arith in
    let m : c.find_turn.result ≡ 2 → ⊥ = λ z. omega arith in
    c.end_first-in_default.ensures ∙ first_ends c.loop-at.invariant.0 k n m

pub overflow_add-at : goal.overflow_add-at
overflow_add-at c = let t = stands (goal.at.overflow_add-at c).Else-c-eq0 in omega (arith, t.within)

pub loop-at-preserved : goal.loop-at-preserved
loop-at-preserved c =
    let k = looked (goal.at.loop-at-preserved c).After-find_turn (stands (goal.at.loop-at-preserved c).Else-c-eq0) in (
      elim c.match-find_turn.branch [
        | in-0 w ↦ rw (w.state-is, w.mid-is) (searching_on c.loop-at.invariant.0 k w.in-0.is _ w.state_after-state.ensures)
        | in-2 w ↦ rw (w.state-is, w.mid-is) (searching_waits c.loop-at.invariant.0 k w.in-2.is _ w.waiting_after-state.ensures)
      ],
      c.read_for_tokens-c.ensures.memo,
    )

pub returns-then-at-eq0-2 : goal.returns-then-at-eq0-2
returns-then-at-eq0-2 c = first_nothing c.loop-at.invariant.0 c.loop-at-test.false c.if-at-eq0-2.true

pub returns-else-at-eq0-2 : goal.returns-else-at-eq0-2
returns-else-at-eq0-2 c = c.end_first-else-at-eq0-2.ensures ∙ first_last c.loop-at.invariant.0 (at_end _ _ c.loop-at-test.false) c.if-at-eq0-2.false
