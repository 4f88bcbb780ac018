-- `token::count` meets its contract. Assumes nothing.
use Rattle.std.proofs.lemmas.Result.{err_from_is_err_and}
use Rattle.image.proofs.OpenedLaws.{opened, not_opened}
use Rattle.token.proofs.AnswerLaws.{count_refused}
use Rattle.token.proofs.count.Goals as goal

pub returns-in_err-image : goal.returns-in_err-image
returns-in_err-image c =
    let p = err_from_is_err_and c.from_residual.result c.from_residual.ensures.1 in
    rw (p.1, p.2) (count_refused _ _ (not_opened _ _ c.judge_text.ensures c.in_err-image.was))

pub count_accepted-requires : goal.count_accepted-requires
count_accepted-requires c = let k = opened _ _ c.judge_text.ensures c.in_ok-image.was in rw k.0 k.1

pub returns : goal.returns
returns c = let k = opened _ _ c.judge_text.ensures c.in_ok-image.was in rw k.0 at c.count_accepted.ensures
