-- `token::take_checked` meets its contract. Assumes nothing.
use Rattle.std.proofs.lemmas.Result.{err_from_is_err_and}
use Rattle.image.proofs.OpenedLaws.{is_refused, is_accepted}
use Rattle.token.proofs.TakenLaws.{taken_refused}
use Rattle.token.proofs.take_checked.Goals as goal

pub returns-in_err-judge_checked : goal.returns-in_err-judge_checked
returns-in_err-judge_checked c =
    let p = err_from_is_err_and c.from_residual.result c.from_residual.ensures.1 in
    rw (p.1, p.2) (taken_refused _ _ _ (is_refused _ c.judge_checked.ensures c.in_err-judge_checked.was))

pub take_accepted-requires : goal.take_accepted-requires
take_accepted-requires c = is_accepted _ c.judge_checked.ensures c.in_ok-judge_checked.was
