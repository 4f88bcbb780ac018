-- `character::fill_table` meets its contract. Assumes nothing.
use Prim.Native.Nat.{◌+◌}
use mathlib.Core.Path.{◌≡◌, ap, ◌∙◌}
use native.Mathlib.Omega.{arith}
use Rattle.character.specs.Traits.{traits_of}
use Rattle.character.proofs.fill_table.Goals as goal

pub returns : goal.returns
returns c = record { long = c.fill_part.ensures.long; each = λ y l. c.fill_part.ensures.each y l ∙ ap (traits_of c.args.image.now) (let z : 0 + y ≡ y = omega arith in z) }
