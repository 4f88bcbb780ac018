-- `turns::find_turn` meets its contract, by the table's rule. Assumes nothing.
use Rattle.turns.proofs.TableLaws.{turn_at}
use Rattle.turns.proofs.find_turn.Goals as goal

pub returns : goal.returns
returns c = turn_at _ _ c.requires.0 c.requires.1
