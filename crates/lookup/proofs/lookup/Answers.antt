-- `lookup::lookup` meets its contract. Assumes nothing.
use mathlib.Core.Path.{sym}
use Rattle.std.proofs.lemmas.Result.{err_from_is_err_and}
use Rattle.image.proofs.OpenedLaws.{not_opened}
use Rattle.lookup.proofs.LookupLaws.{refused}
use Rattle.lookup.proofs.lookup.Goals as goal

pub returns-in_err-judge_given : goal.returns-in_err-judge_given
returns-in_err-judge_given c =
    let p = err_from_is_err_and c.from_residual.result c.from_residual.ensures.1 in
    rw (p.1, p.2) (sym (refused _ _ _ (not_opened _ _ c.judge_given.ensures c.in_err-judge_given.was)))
