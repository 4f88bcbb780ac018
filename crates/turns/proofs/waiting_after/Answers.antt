-- `turns::waiting_after` meets its contract, by the table's rule. Assumes nothing.
use Rattle.turns.proofs.TableLaws.{waiting_at}
use Rattle.turns.proofs.waiting_after.Goals as goal

pub returns : goal.returns
returns c = waiting_at _ c.requires
