-- `count::look` meets its contract: the character's own turn, after what it settles. Assumes nothing.
use Prim.Native.Nat.{ℕ}
use mathlib.Core.Path.{ap, ◌∙◌}
use native.Mathlib.Omega.{arith}
use Rattle.std.specs.Prelude.{Err}
use Rattle.turns.proofs.ReachLaws.{Here, here, here_small}
use Rattle.count.specs.Counting.{CountLook, CountingFrom, settled_run}
use Rattle.count.proofs.RuleLaws.{rule_turn}
use Rattle.count.proofs.CountLaws.{counting_few, counts_ill, counts_left, counting_settles, waits_here}
use Rattle.count.proofs.LookLaws.{looked_plain, looked_settled}
use Rattle.count.proofs.look.Goals as goal
use Rattle.count.proofs.look.Goals.{After-rule-turn, After-rule-turn-2, Else-c-eq0, Else-run-eq-WAITING}

-- the character that was read stands at the place
stands : (c : goal.Else-c-eq0)
    → let a = c.args in
    let r = c.read_for_tokens-c.result in
    Here a.image.now a.text.now a.run.at r.len r.traits
stands c = here _ _ _ _ c.requires.at_in_bounds c.read_for_tokens-c.ensures (omega arith)

looked : (c : goal.After-rule-turn)
    → let a = c.args in
    let r = c.read_for_tokens-c.result in
    Here a.image.now a.text.now a.run.at r.len r.traits → CountLook a.image.now a.text.now a.run.state a.run.at r.len r.traits c.rule-turn.result
looked c h = record { accepted = c.recall.ensures; here = h; known = c.rule-turn.ensures ∙ rule_turn _ _ c.requires.counting_as.counting.less }

-- what waits is settled
settled : (c : goal.Else-run-eq-WAITING)
    → let a = c.args in
    let r = c.read_for_tokens-c.result in
    CountLook a.image.now a.text.now a.run.state a.run.at r.len r.traits c.rule-turn.result →
    (start : ℕ) → CountingFrom a.image.now a.text.now a.run start → CountingFrom a.image.now a.text.now (settled_run a.run) a.run.mid
settled c k start i = let s = waits_here i k c.if-turn-ne-SETTLES.false in counting_settles i s.1 s.0 c.if-run-eq-WAITING.false

-- .. and the character has its own turn
looked_next : (c : goal.After-rule-turn-2)
    → let a = c.args in
    let r = c.read_for_tokens-c.result in
    Here a.image.now a.text.now a.run.at r.len r.traits → CountLook a.image.now a.text.now (settled_run a.run).state a.run.at r.len r.traits c.rule-turn-2.result
looked_next c h = record { accepted = c.recall.ensures; here = h; known = c.rule-turn-2.ensures ∙ rule_turn _ _ (omega (arith, c.requires.counting_as.counting.less)) }

pub returns-then-c-eq0 : goal.returns-then-c-eq0
returns-then-c-eq0 c = ap Err c.refuse_at.ensures ∙ counts_ill c.requires.counting_as.counting (c.read_for_tokens-c.ensures.none c.if-c-eq0.true)

pub rule-turn-requires : goal.rule-turn-requires
rule-turn-requires c = (omega (arith, c.requires.counting_as.counting.less), here_small c.recall.ensures (stands (goal.at.rule-turn-requires c).Else-c-eq0))

pub advance-requires : goal.advance-requires
advance-requires c = record { counting_as = c.requires.counting_as; count_look = looked (goal.at.advance-requires c).After-rule-turn (stands (goal.at.advance-requires c).Else-c-eq0); memo_of = (c.read_for_tokens-c.ensures.memo, c.if-turn-ne-SETTLES.true) }

pub returns-then-run-eq-WAITING : goal.returns-then-run-eq-WAITING
returns-then-run-eq-WAITING c =
    let s = waits_here c.requires.counting_as.counting (looked (goal.at.returns-then-run-eq-WAITING c).After-rule-turn (stands (goal.at.returns-then-run-eq-WAITING c).Else-c-eq0)) c.if-turn-ne-SETTLES.false in
    ap Err c.refuse_at-then-run-eq-WAITING.ensures ∙ counts_left c.requires.counting_as.counting s.1 s.0 c.if-run-eq-WAITING.true

pub overflow_add-next : goal.overflow_add-next
overflow_add-next c = omega (arith, counting_few (settled (goal.at.overflow_add-next c).Else-run-eq-WAITING (looked (goal.at.overflow_add-next c).After-rule-turn (stands (goal.at.overflow_add-next c).Else-c-eq0)) _ c.requires.counting_as.counting))

pub rule-turn-requires-2 : goal.rule-turn-requires-2
rule-turn-requires-2 c = (omega (arith, c.requires.counting_as.counting.less), here_small c.recall.ensures (stands (goal.at.rule-turn-requires-2 c).Else-c-eq0))

pub advance-requires-2 : goal.advance-requires-2
advance-requires-2 c =
    let i = settled (goal.at.advance-requires-2 c).Else-run-eq-WAITING (looked (goal.at.advance-requires-2 c).After-rule-turn (stands (goal.at.advance-requires-2 c).Else-c-eq0)) _ c.requires.counting_as.counting in
    let l = looked_next (goal.at.advance-requires-2 c).After-rule-turn-2 (stands (goal.at.advance-requires-2 c).Else-c-eq0) in
    record {
      counting_as = record { start = _; counting = i; memo = c.requires.counting_as.memo };
      count_look = l;
      memo_of = (c.read_for_tokens-c.ensures.memo, λ z. absurd (omega (arith, (waits_here i l z).0, c.requires.counting_as.counting.less)));
    }

pub returns : goal.returns
returns c =
    let k = looked (goal.at.returns c).After-rule-turn (stands (goal.at.returns c).Else-c-eq0) in
    let w = (waits_here c.requires.counting_as.counting k c.if-turn-ne-SETTLES.false).0 in
    looked_settled c.args.image.now c.args.text.now c.args.run c.advance-2.result (omega (arith, w, c.if-run-eq-WAITING.false)) (settled (goal.at.returns c).Else-run-eq-WAITING k) c.advance-2.ensures

pub returns-then-turn-ne-SETTLES : goal.returns-then-turn-ne-SETTLES
returns-then-turn-ne-SETTLES c = looked_plain c.args.image.now c.args.text.now c.args.run c.advance.result c.advance.ensures

pub refuse_at-requires-then-run-eq-WAITING : goal.refuse_at-requires-then-run-eq-WAITING
refuse_at-requires-then-run-eq-WAITING c = c.requires.counting_as.counting.reached.medial.within

pub overflow_sub-next : goal.overflow_sub-next
overflow_sub-next c = (waits_here c.requires.counting_as.counting (looked (goal.at.overflow_sub-next c).After-rule-turn (stands (goal.at.overflow_sub-next c).Else-c-eq0)) c.if-turn-ne-SETTLES.false).0
