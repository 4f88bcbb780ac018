-- The measure of `lookup::seek`: the number of records that remain. Assumes nothing.
use Rattle.std.proofs.Common.{◌-◌}
use Rattle.lookup.proofs.+seek.Given as goal

abbrev pub decreases-seek : goal.decreases-seek
decreases-seek l = l.hi - l.lo
