-- `part::part_of` meets its contract. Assumes nothing.
use mathlib.Core.Path.{ap, ◌∙◌}
use Rattle.part.specs.Part.{outcome_by}
use Rattle.part.proofs.PartLaws.{got_part}
use Rattle.part.proofs.part_of.Goals as goal

pub returns : goal.returns
returns c = ap outcome_by c.ok_or.ensures.value ∙ got_part _ _ _ _ c.get.ensures.lookup
