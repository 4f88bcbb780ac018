-- The loop of `image::ClassImage::put_profile`: the first i entries stand in the arrays, and zeros past them.
use Rattle.std.proofs.Common.{◌≡◌, ◌≤◌}
use Rattle.lists.specs.Each.{column}
use Rattle.image.specs.Limits.{max_entries}
use Rattle.image.specs.Profile.{point_at, role_at}
use Rattle.image.proofs.ClassImage.put_profile.Given as goal

abbrev pub invariant-loop-i : goal.invariant-loop-i
invariant-loop-i l = record {
  point_values : l.points ≡ column max_entries (point_at l.fn.self) l.i;
  role_values : l.roles ≡ column max_entries (role_at l.fn.self) l.i;
  few : l.entries.count ≤ max_entries;
}
