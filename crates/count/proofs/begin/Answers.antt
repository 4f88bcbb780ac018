-- `count::begin` meets its contract: no token is complete, and none is under way. Assumes nothing.
use mathlib.Core.Path.{refl}
use Rattle.count.proofs.CountLaws.{counting_begins}
use Rattle.count.proofs.begin.Goals as goal

pub returns : goal.returns
returns c = ((λ s. (counting_begins s _, c.no_memo.ensures s)), refl, refl, refl, refl)
