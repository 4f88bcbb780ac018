-- The loop of `utf8::check_text`: what is said of the rest of the text, moved by the place reached, is said of the whole.
use Prim.Native.Nat.{◌≤◌, ◌-◌}
use mathlib.Core.Path.{◌≡◌}
use lib.ListN.{length, drop}
use Rattle.utf8.specs.Text.{text_of, shift}
use Rattle.utf8.proofs.check_text.Given as goal

abbrev pub invariant-loop-at : goal.invariant-loop-at
invariant-loop-at l = (l.at ≤ length l.s) × (shift l.at (text_of (drop l.at l.s)) ≡ text_of l.s)

abbrev pub decreases-loop-at : goal.decreases-loop-at
decreases-loop-at l = length l.s - l.at
