-- The loop of `utf8::measure_row`: the text has the bytes of the row if it has those from the place reached on. Assumes nothing.
use Prim.Native.Nat.{suc}
use mathlib.Core.Path.{◌≡◌}
use lib.ListN.{drop}
use Rattle.utf8.specs.Table.{fits}
use Rattle.utf8.proofs.measure_row.Given as goal

abbrev pub invariant-loop-i : goal.invariant-loop-i
invariant-loop-i g l = fits l.trail (drop 1 l.s) ≡ fits (drop l.i l.trail) (drop (suc l.i) l.s)
