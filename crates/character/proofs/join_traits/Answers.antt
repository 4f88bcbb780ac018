-- `character::join_traits` meets its contract, by whether the role marks a medial or is that of hashtags. Assumes nothing.
use mathlib.Core.Path.{sym, ◌∙◌}
use native.Mathlib.Omega.{arith}
use Rattle.image.proofs.RoleLaws.{medial_alone}
use Rattle.character.proofs.join_traits.Goals as goal

pub returns-then-is_medial : goal.returns-then-is_medial
returns-then-is_medial c =
    let m = sym c.is_medial.ensures ∙ c.if-is_medial.true in
    rw (m, medial_alone _ m) (omega arith)
