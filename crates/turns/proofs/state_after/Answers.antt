-- `turns::state_after` meets its contract, by the table's rule. Assumes nothing.
use Rattle.turns.proofs.TableLaws.{after_at}
use Rattle.turns.proofs.state_after.Goals as goal

pub returns : goal.returns
returns c = after_at _ c.requires
