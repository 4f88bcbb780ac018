-- `image::read` meets its contract. Assumes nothing.
use mathlib.Core.Path.{sym, ap, ◌∙◌}
use Rattle.image.specs.Check.{accepted_of}
use Rattle.image.proofs.ReadLaws.{read_accepts}
use Rattle.image.proofs.AnswerLaws.{read_accepted, read_refuses}
use Rattle.image.proofs.read.Goals as goal

pub of_accepted-requires : goal.of_accepted-requires
of_accepted-requires c = ((read_accepts c.args.image.now c.args.out.now _ _).0 (sym c.in-Ok.ensures.value)).0

pub returns-in-Err : goal.returns-in-Err
returns-in-Err c = (c.refuse.ensures ∙ sym (read_refuses c.args.image.now c.args.out.now _ (sym c.in-Err.ensures.value)), c.read_ranges.ensures.out_after)

pub returns-in-Ok : goal.returns-in-Ok
returns-in-Ok c = (
  c.accept.ensures ∙ ap accepted_of c.of_accepted.ensures ∙ sym (read_accepted c.args.image.now c.args.out.now _ _ (sym c.in-Ok.ensures.value)),
  c.read_ranges.ensures.out_after,
)
