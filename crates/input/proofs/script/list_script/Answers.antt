-- `input::script::list_script` meets its contract. Assumes nothing.
use Rattle.std.proofs.lemmas.Result.{err_from_is_err_and}
use Rattle.image.proofs.OpenedLaws.{opened, not_opened}
use Rattle.input.proofs.ScriptLaws.{script_refused_lem, script_listed, gives_refused, gives_listed}
use Rattle.input.proofs.script.list_script.Goals as goal

pub returns-in_err-image : goal.returns-in_err-image
returns-in_err-image c =
    let p = err_from_is_err_and c.from_residual.result c.from_residual.ensures.1 in
    let t = gives_refused _ _ (script_refused_lem _ _ _ (not_opened _ _ c.judge_text.ensures c.in_err-image.was)) in record { value = rw (p.1, p.2) t.0; out_after = t.1 }

pub returns : goal.returns
returns c =
    let k = opened _ _ c.judge_text.ensures c.in_ok-image.was in
    let t = gives_listed _ _ _ (script_listed _ _ _ k.1) (rw k.0 at c.list_checked.ensures.value, rw k.0 at c.list_checked.ensures.out_after) in record { value = t.0; out_after = t.1 }
