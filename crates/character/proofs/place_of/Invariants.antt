-- The loop of `character::place_of`: the place is from lo to hi.
use Prim.Native.Nat.{◌-◌}
use mathlib.Core.Path.{◌≡◌}
use mathlib.Core.Option.{none}
use Rattle.image.specs.Check.{refusal_of}
use Rattle.image.specs.Records.{record_at, record_count}
use Rattle.character.proofs.PlaceLaws.{Between}
use Rattle.character.proofs.place_of.Given as goal

abbrev pub invariant-loop-lo : goal.invariant-loop-lo
invariant-loop-lo l = (refusal_of l.image ≡ none) × Between (record_at l.image l.section) (record_count l.image l.section) l.x l.lo l.hi

abbrev pub decreases-loop-lo : goal.decreases-loop-lo
decreases-loop-lo l = l.hi - l.lo
