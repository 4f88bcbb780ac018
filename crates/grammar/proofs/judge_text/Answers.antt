-- `grammar::judge_text` meets its contract. Assumes nothing.
use mathlib.Core.Path.{sym, ap}
use Rattle.std.proofs.lemmas.Result.{err_from_is_err_and}
use Rattle.image.specs.Opened.{opened_by}
use Rattle.image.proofs.ImageLaws.{refusal_means}
use Rattle.image.proofs.OpenedLaws.{opened, not_opened, is_refused, is_accepted}
use Rattle.grammar.specs.Before.{of_image}
use Rattle.grammar.proofs.BeforeLaws.{means_before}
use Rattle.grammar.proofs.judge_text.Goals as goal

pub returns-in_err-image : goal.returns-in_err-image
returns-in_err-image c =
    let p = err_from_is_err_and c.from_residual.result c.from_residual.ensures.1 in
    let e = not_opened _ _ c.judge_given.ensures c.in_err-image.was in
    rw (p.1, p.2) (sym (ap (opened_by c.args.image.now) (means_before _ _ _ (of_image (refusal_means _ _ e)))))

pub returns-in_err-judge_checked : goal.returns-in_err-judge_checked
returns-in_err-judge_checked c =
    let p = err_from_is_err_and c.from_residual-in_err-judge_checked.result c.from_residual-in_err-judge_checked.ensures.1 in
    let k = opened _ _ c.judge_given.ensures c.in_ok-image.was in
    let e = rw k.0 at (is_refused _ c.judge_checked.ensures c.in_err-judge_checked.was) in
    rw (p.1, p.2) (sym (ap (opened_by c.args.image.now) e))

pub returns : goal.returns
returns c =
    let k = opened _ _ c.judge_given.ensures c.in_ok-image.was in
    let e = rw k.0 at (is_accepted _ c.judge_checked.ensures c.in_ok-judge_checked.was) in
    rw k.0 (sym (ap (opened_by c.args.image.now) e))
