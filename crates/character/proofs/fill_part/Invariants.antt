-- The loop of `character::fill_part`: the places passed hold their traits, and the walk has come to the next.
use Prim.Native.Nat.{ℕ, ◌+◌, ◌≤◌}
use mathlib.Core.Path.{◌≡◌}
use mathlib.Core.Option.{none}
use lib.ListN.{length}
use Rattle.lists.specs.Filled.{Filled}
use Rattle.character.specs.Traits.{traits_of}
use Rattle.character.proofs.PlaceLaws.{WalkOf}
use Rattle.image.specs.Check.{refusal_of}
use Rattle.character.proofs.fill_part.Given as goal

abbrev pub invariant-loop-i : goal.invariant-loop-i
invariant-loop-i l = (l.i ≤ length l.initial.out) × Filled (length l.initial.out) (λ (j : ℕ). traits_of l.image (l.base + j)) l.out l.i × WalkOf l.image (l.base + l.i) l.range l.entry l.memo × (refusal_of l.image ≡ none)
