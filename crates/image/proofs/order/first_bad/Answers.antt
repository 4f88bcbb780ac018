-- `image::order::first_bad` meets its contract. Assumes nothing.
use Rattle.std.proofs.Common.{sym, ◌∙◌, arith}
use Rattle.lists.proofs.SearchLaws.{search_begins, good_next}
use Rattle.image.specs.Order.{first_bad}
use Rattle.image.proofs.OrderLaws.{bad_given, none_given}
use Rattle.image.proofs.order.first_bad.Goals as goal

pub loop-i-init : goal.loop-i-init
loop-i-init g c = search_begins

pub loop-i-preserved : goal.loop-i-preserved
loop-i-preserved g c = good_next c.loop-i.invariant (omega arith) (sym c.is_good.ensures ∙ c.if-not-is_good.false)

pub returns-then-not-is_good : goal.returns-then-not-is_good
unfolding first_bad
returns-then-not-is_good g c = bad_given c.loop-i.invariant (omega arith) (sym c.is_good.ensures ∙ c.if-not-is_good.true)

pub returns : goal.returns
unfolding first_bad
returns g c = none_given c.loop-i.invariant (omega arith)
