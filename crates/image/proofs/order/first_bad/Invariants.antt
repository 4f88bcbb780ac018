-- The loop of `image::order::first_bad`: all records before i are good.
use Rattle.lists.proofs.SearchLaws.{Searching}
use Rattle.image.specs.Order.{good_record}
use Rattle.image.proofs.order.first_bad.Given as goal

abbrev pub invariant-loop-i : goal.invariant-loop-i
invariant-loop-i g l =
    let r = g.L.Item.Record in
    Searching (good_record r.good r.after (g.L.Records.item l.list)) (g.L.Records.size l.list) l.i
