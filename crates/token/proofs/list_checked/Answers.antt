-- `token::list_checked` meets its contract. Assumes nothing.
use Rattle.std.proofs.lemmas.Result.{err_from_is_err_and}
use Rattle.image.proofs.OpenedLaws.{is_refused, is_accepted}
use Rattle.token.proofs.AnswerLaws.{list_refused}
use Rattle.token.proofs.list_checked.Goals as goal

pub returns-in_err-judge_checked : goal.returns-in_err-judge_checked
returns-in_err-judge_checked c =
    let p = err_from_is_err_and c.from_residual.result c.from_residual.ensures.1 in
    let t = list_refused _ _ _ (is_refused _ c.judge_checked.ensures c.in_err-judge_checked.was) in record { value = rw (p.1, p.2) t.0; out_after = t.1 }

pub list_accepted-requires : goal.list_accepted-requires
list_accepted-requires c = is_accepted _ c.judge_checked.ensures c.in_ok-judge_checked.was
