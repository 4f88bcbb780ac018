-- `token::list` meets its contract. Assumes nothing.
use Rattle.std.proofs.lemmas.Result.{err_from_is_err_and}
use Rattle.image.proofs.OpenedLaws.{opened, not_opened}
use Rattle.token.proofs.AnswerLaws.{list_refused}
use Rattle.token.proofs.list.Goals as goal

pub returns-in_err-image : goal.returns-in_err-image
returns-in_err-image c =
    let p = err_from_is_err_and c.from_residual.result c.from_residual.ensures.1 in
    let t = list_refused _ _ _ (not_opened _ _ c.judge_text.ensures c.in_err-image.was) in record { value = rw (p.1, p.2) t.0; out_after = t.1 }

pub list_accepted-requires : goal.list_accepted-requires
list_accepted-requires c = let k = opened _ _ c.judge_text.ensures c.in_ok-image.was in rw k.0 k.1

pub returns : goal.returns
returns c = let k = opened _ _ c.judge_text.ensures c.in_ok-image.was in rw k.0 at c.list_accepted.ensures
