-- `character::read` meets its contract: a byte below 80 by the table, another sequence decoded. Assumes nothing.
use Rattle.character.proofs.CharacterLaws.{read_ascii}
use Rattle.character.proofs.read.Goals as goal

pub returns-then-b-lt128 : goal.returns-then-b-lt128
returns-then-b-lt128 c = read_ascii _ _ _ c.args.table.now _ _ _ c.requires.table_of.each c.requires.memo_of c.requires.at_in_bounds c.if-b-lt128.true c.ascii.ensures
