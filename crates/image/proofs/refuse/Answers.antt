-- `image::refuse` meets its contract. Assumes nothing.
use mathlib.Core.Path.{refl}
use Rattle.image.specs.Profile.{no_profile_within}
use Rattle.image.proofs.refuse.Goals as goal

pub returns : goal.returns
unfolding no_profile_within
returns c = refl
