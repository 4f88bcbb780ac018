-- `pair::first_forbidden` meets its contract. Assumes nothing.
use mathlib.Core.Path.{sym, ◌∙◌}
use Rattle.pair.proofs.OverlapLaws.{stands, clear_next, clear_here, clear_ends}
use Rattle.pair.proofs.first_forbidden.Goals as goal

pub returns-then-not-is_permitted : goal.returns-then-not-is_permitted
returns-then-not-is_permitted c =
    let h = rw c.in-Some.is at c.loop-next.invariant in
    clear_here _ _ h.0 h.1.1 (sym c.is_permitted.ensures ∙ c.if-not-is_permitted.true)

pub loop-next-preserved : goal.loop-next-preserved
loop-next-preserved c =
    let h = rw c.in-Some.is at c.loop-next.invariant in
    let o = c.next-next.ensures in
    let z = stands _ _ _ _ o in
    (rw z (clear_next _ _ h.0 h.1.1 (sym c.is_permitted.ensures ∙ c.if-not-is_permitted.false)), rw z o)

pub returns : goal.returns
returns c = let h = rw c.in_default.is at c.loop-next.invariant in clear_ends _ _ h.0
