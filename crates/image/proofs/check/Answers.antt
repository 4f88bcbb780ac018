-- `image::check` meets its contract. Assumes nothing.
use mathlib.Core.Path.{sym, ap, ◌∙◌}
use Rattle.image.specs.Check.{accepted_of}
use Rattle.image.proofs.AnswerLaws.{record_opened, record_not_opened}
use Rattle.image.proofs.check.Goals as goal

pub returns-in-Err : goal.returns-in-Err
returns-in-Err c = c.refuse.ensures ∙ sym (record_not_opened _ _ (sym c.in-Err.ensures))

pub returns-in-Ok : goal.returns-in-Ok
returns-in-Ok c = let k = record_opened _ _ (sym c.in-Ok.ensures) in c.accept.ensures ∙ ap accepted_of k.0 ∙ sym k.1
