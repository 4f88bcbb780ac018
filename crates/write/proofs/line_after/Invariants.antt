-- The loop of `write::line_after`: `now` is the line at the place, and characters go from there to the end.
use Prim.Native.Nat.{◌-◌}
use Rattle.line.specs.Line.{LineAt}
use Rattle.write.specs.Records.{Spans}
use Rattle.write.proofs.line_after.Given as goal

abbrev pub invariant-loop-at : goal.invariant-loop-at
invariant-loop-at l = (LineAt l.text l.at l.now) × (Spans l.text l.at l.end)

abbrev pub decreases-loop-at : goal.decreases-loop-at
decreases-loop-at l = l.end - l.at
