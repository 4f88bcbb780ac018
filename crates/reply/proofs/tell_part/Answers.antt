-- `reply::tell_part` meets its contract. Assumes nothing.
use Rattle.reply.proofs.PartLaws.{part_told}
use Rattle.reply.proofs.tell_part.Goals as goal

pub returns-in-Ok-clause-answer_after : goal.returns-in-Ok-clause-answer_after
returns-in-Ok-clause-answer_after c = part_told _ _ _ _ c.in-Ok.ensures _ c.give.ensures.values

pub returns-in-Err-clause-answer_after : goal.returns-in-Err-clause-answer_after
returns-in-Err-clause-answer_after c = part_told _ _ _ _ c.in-Err.ensures _ c.tell.ensures.values
