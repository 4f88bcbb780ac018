-- What opening accepts is what the profile is told of.
use Rattle.std.proofs.Common.{sym, ap, ◌∙◌}
use Rattle.image.specs.declared.Checked.{Checked}
use Rattle.image.proofs.AnswerLaws.{record_opened, record_not_opened}
use Rattle.reply.proofs.ReplyLaws.{told_refused, told_checked}
use Rattle.luffinarc.proofs.luffinarc_check.Goals as goal

pub returns-in-Err : goal.returns-in-Err
returns-in-Err c =
    told_refused _ (ap (λ (k : Checked). k.answer) (record_not_opened _ _ (sym c.open.ensures ∙ c.in-Err.is))) c.tell.ensures

pub returns-in-Ok : goal.returns-in-Ok
returns-in-Ok c =
    let k = record_opened _ _ (sym c.open.ensures ∙ c.in-Ok.is) in
    told_checked (sym k.1) (rw k.0 at c.tell_profile.ensures)
