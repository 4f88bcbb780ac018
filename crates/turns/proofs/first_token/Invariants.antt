-- The loop of `turns::first_token`: no token is complete.
use Prim.Native.Nat.{◌-◌}
use lib.ListN.{length}
use Rattle.character.specs.Read.{MemoOf}
use Rattle.turns.proofs.FirstTokenLaws.{Searching}
use Rattle.turns.proofs.first_token.Given as goal

abbrev pub invariant-loop-at : goal.invariant-loop-at
invariant-loop-at l = Searching l.image l.text l.state l.mid l.at × MemoOf l.image l.memo

abbrev pub decreases-loop-at : goal.decreases-loop-at
decreases-loop-at l = length l.text - l.at
