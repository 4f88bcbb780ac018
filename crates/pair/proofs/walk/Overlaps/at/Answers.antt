-- `pair::walk::Overlaps::at` meets its contract. Assumes nothing.
use mathlib.Core.Path.{refl}
use native.Mathlib.Omega.{arith}
use Rattle.pair.proofs.OverlapLaws.{both_ahead}
use Rattle.pair.proofs.walk.Overlaps.at.Goals as goal

pub returns : goal.returns
returns c = record { first_value = refl; overlap = both_ahead c.advance-c.ensures c.advance-d.ensures _ (omega arith) }
