-- What the read accepts is what the profile is told of.
use Rattle.std.proofs.Common.{sym, ◌∙◌}
use Rattle.image.proofs.ReadLaws.{read_accepts}
use Rattle.image.proofs.AnswerLaws.{read_accepted}
use Rattle.reply.proofs.ReplyLaws.{told_checked}
use Rattle.luffinarc.proofs.luffinarc_read.Goals as goal

pub of_accepted-requires : goal.of_accepted-requires
of_accepted-requires c = ((read_accepts c.args.image.now c.args.words.now _ _).0 (sym c.read_ranges.ensures.value ∙ c.in-Ok.is)).0

pub returns-in-Ok-clause-tells_checked : goal.returns-in-Ok-clause-tells_checked
returns-in-Ok-clause-tells_checked c =
    let e = read_accepted c.args.image.now c.args.words.now _ _ (sym c.read_ranges.ensures.value ∙ c.in-Ok.is) in
    told_checked (sym e) (rw c.of_accepted.ensures at c.tell_profile.ensures)
