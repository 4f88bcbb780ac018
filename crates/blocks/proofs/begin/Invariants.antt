-- The loop of `blocks::begin`: the rows of Start are filled up to a place.
use Prim.Native.Nat.{◌≤◌}
use mathlib.Core.Path.{◌≡◌}
use lib.ListN.{length}
use Rattle.blocks.proofs.LearnLaws.{Beginning}
use Rattle.blocks.proofs.begin.Given as goal

abbrev pub invariant-loop-i : goal.invariant-loop-i
invariant-loop-i l = Beginning l.image l.cells l.i × (l.i ≤ 320) × (length l.cells ≡ length l.initial.cells)
