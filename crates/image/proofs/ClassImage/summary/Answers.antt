-- `image::ClassImage::summary` meets its contract. Assumes nothing.
use native.Mathlib.Omega.{arith}
use Rattle.image.proofs.SectionLaws.{within_limits}
use Rattle.image.proofs.ClassImage.summary.Goals as goal

pub word-requires : goal.word-requires
word-requires c = let f = within_limits _ c.self.invariant in omega arith

pub word-requires-2 : goal.word-requires-2
word-requires-2 c = let f = within_limits _ c.self.invariant in omega arith
