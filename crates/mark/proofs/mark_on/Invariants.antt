-- The loop of `mark::mark_on`: what is marked so far, and what blocks hold is right.
use Prim.Native.Nat.{◌-◌}
use mathlib.Core.Path.{◌≡◌}
use lib.ListN.{length}
use Rattle.blocks.specs.Blocks.{Learning}
use Rattle.mark.specs.Marking.{Marking}
use Rattle.mark.proofs.mark_on.Given as goal

abbrev pub invariant-loop-run : goal.invariant-loop-run
invariant-loop-run l = Marking l.image l.text l.starts l.done l.run × Learning l.image l.index l.cells l.run.rows × (length l.index ≡ length l.initial.index) × (length l.cells ≡ length l.initial.cells)
    × (length l.starts ≡ length l.initial.starts)

abbrev pub decreases-loop-run : goal.decreases-loop-run
decreases-loop-run l = length l.text - l.run.at
