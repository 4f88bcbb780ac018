-- `utf8::check_text` meets its contract: what is said of the rest of the text, moved by the place reached, is said of the whole.
-- Assumes nothing.
use Prim.Native.Nat.{◌%◌}
use mathlib.Core.Path.{sym, ap, subst, ◌∙◌}
use native.Mathlib.Omega.{arith}
use lib.ListN.{drop, length-drop}
use Rattle.lists.proofs.LaidLaws.{rest}
use Rattle.utf8.specs.Subpart.{subpart_of}
use Rattle.utf8.specs.Head.{IllHead}
use Rattle.utf8.specs.Text.{ill}
use Rattle.utf8.proofs.TextLaws.{Turn, turn, Unpacked, unpacked, ascii_turn, ill_here, end_here}
use Rattle.utf8.proofs.check_text.Goals as goal
use Rattle.utf8.proofs.check_text.Goals.{After-decode_packed-len, Else-len-eq0, Then-len-eq0}

-- what the packed sequence at the place reached tells
stands : (c : goal.After-decode_packed-len)
    → Unpacked (drop c.loop-at.at c.args.s.now) c.decode_packed-len.result
stands c =
    let l = length-drop c.loop-at.at c.args.s.now in
    unpacked _ _ c.decode_packed-len.ensures (omega (arith, c.loop-at-test.true))

moves : (c : goal.Else-len-eq0)
    → Turn c.args.s.now c.loop-at.at
    (c.decode_packed-len.result % 8)
moves c = turn _ _ _ _ c.loop-at.invariant.0 ((stands (record { before = c.before.before; type_inv = record { s = c.type_inv.s } })).some (omega (arith, c.if-len-eq0.false)))

pub loop-at-preserved-then-s-at-lt128 : goal.loop-at-preserved-then-s-at-lt128
loop-at-preserved-then-s-at-lt128 c =
    let t = ascii_turn _ _ c.loop-at-test.true c.if-s-at-lt128.true in
    (t.within, sym t.same ∙ c.loop-at.invariant.1)

-- the text from the place reached on, where it is ill-formed
part : (c : goal.Then-len-eq0)
    → IllHead (drop c.loop-at.at c.args.s.now)
part c = (stands (record { before = c.before.before; type_inv = record { s = c.type_inv.s } })).none c.if-len-eq0.true

pub measure_subpart-requires : goal.measure_subpart-requires
measure_subpart-requires c = subst IllHead (sym (rest c.args.s.now c.loop-at.at)) (part (goal.at.measure_subpart-requires c).Then-len-eq0)

pub returns-then-len-eq0 : goal.returns-then-len-eq0
returns-then-len-eq0 c =
    ap (ill c.loop-at.at) (c.measure_subpart.ensures ∙ ap subpart_of (rest c.args.s.now c.loop-at.at))
    ∙ sym (ill_here _ _ (part (goal.at.returns-then-len-eq0 c).Then-len-eq0)) ∙ c.loop-at.invariant.1

pub loop-at-preserved : goal.loop-at-preserved
loop-at-preserved c = let t = moves c in (t.within, sym t.same ∙ c.loop-at.invariant.1)

pub returns : goal.returns
returns c = sym (end_here c.args.s.now c.loop-at.at (omega arith)) ∙ c.loop-at.invariant.1
