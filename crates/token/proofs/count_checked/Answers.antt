-- `token::count_checked` meets its contract. Assumes nothing.
use Rattle.std.proofs.lemmas.Result.{err_from_is_err_and}
use Rattle.image.proofs.OpenedLaws.{is_refused, is_accepted}
use Rattle.token.proofs.AnswerLaws.{count_refused}
use Rattle.token.proofs.count_checked.Goals as goal

pub returns-in_err-judge_checked : goal.returns-in_err-judge_checked
returns-in_err-judge_checked c =
    let p = err_from_is_err_and c.from_residual.result c.from_residual.ensures.1 in
    rw (p.1, p.2) (count_refused _ _ (is_refused _ c.judge_checked.ensures c.in_err-judge_checked.was))

pub count_accepted-requires : goal.count_accepted-requires
count_accepted-requires c = is_accepted _ c.judge_checked.ensures c.in_ok-judge_checked.was
