-- The loop of `count::count_on`: what is counted so far, and what blocks hold is right.
use Prim.Native.Nat.{◌-◌}
use mathlib.Core.Path.{◌≡◌}
use lib.ListN.{length}
use Rattle.blocks.specs.Blocks.{Learning}
use Rattle.count.specs.Counting.{CountingAs}
use Rattle.count.proofs.count_on.Given as goal

abbrev pub invariant-loop-run : goal.invariant-loop-run
invariant-loop-run l = CountingAs l.image l.text l.run × Learning l.image l.index l.cells l.run.rows × (length l.index ≡ length l.initial.index) × (length l.cells ≡ length l.initial.cells)

abbrev pub decreases-loop-run : goal.decreases-loop-run
decreases-loop-run l = length l.text - l.run.at
