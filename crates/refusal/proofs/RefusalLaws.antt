-- No refusal carries more than two numbers. Assumes nothing.
use Rattle.std.proofs.Common.{◌≤◌, length, arith}
use Rattle.refusal.specs.Refusal.{carried_by}
use Rattle.refusal.specs.declared.Refusal.{Refusal}
use Rattle.refusal.specs.declared.Refusal.TheVariants.{
  Length,
  Header,
  Range,
  Entry,
  TextLength,
  IllFormed,
  Characters,
  Room,
  NotScalar,
  Change,
  Profiles,
  Buffer,
  Shape,
  Mark,
}

pub two_at_most : (r : Refusal) → length (carried_by r) ≤ 2
two_at_most Length = omega arith
two_at_most Header = omega arith
two_at_most (Range i) = omega arith
two_at_most (Entry i) = omega arith
two_at_most TextLength = omega arith
two_at_most (IllFormed p n) = omega arith
two_at_most (Characters p) = omega arith
two_at_most (Room n) = omega arith
two_at_most (NotScalar x) = omega arith
two_at_most (Change x) = omega arith
two_at_most Profiles = omega arith
two_at_most (Buffer n) = omega arith
two_at_most Shape = omega arith
two_at_most (Mark p) = omega arith
