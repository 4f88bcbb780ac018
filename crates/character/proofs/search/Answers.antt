-- `character::search` meets its contract. Assumes nothing.
use Rattle.character.proofs.search.Goals as goal

pub memo_of-requires : goal.memo_of-requires
memo_of-requires c = record { stretch_of = c.find_stretch-class.ensures; stretch_of_2 = c.find_stretch-role.ensures }
