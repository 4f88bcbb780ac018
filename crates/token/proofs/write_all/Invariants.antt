-- The loop of `token::write_all`: the records before the marked tokens stand.
use mathlib.Core.Path.{◌≡◌}
use lib.ListN.{length}
use Rattle.token.proofs.FillLaws.{Filling, left_over}
use Rattle.token.proofs.write_all.Given as goal

abbrev pub invariant-loop-run : goal.invariant-loop-run
invariant-loop-run l = Filling l.image l.text l.total l.initial.out l.index l.cells l.starts l.out l.run l.done l.from × (length l.index ≡ length l.initial.index) × (length l.cells ≡ length l.initial.cells) × (length l.starts ≡ length l.initial.starts)

abbrev pub decreases-loop-run : goal.decreases-loop-run
decreases-loop-run l = left_over l.text l.run
