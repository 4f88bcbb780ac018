-- Inner: no public statement cites this file.
-- A change as the walk over two images finds it, and the room that changes need, for the inner functions (docs/RULES.md, "What changed").
use Rattle.std.specs.Prelude.{ℕ, cond, ltb, Result, Ok, Err}
use Rattle.refusal.specs.declared.Refusal.TheVariants.{Room}
use Rattle.pair.specs.declared.PairRefusal.{PairRefusal}
use Rattle.pair.specs.declared.PairRefusal.TheVariants.{Neither}
use Rattle.pair.specs.declared.walk.Overlap.{Overlap}
use Rattle.changes.specs.Change.{Change}

-- the change of an overlap
abbrev pub change_of : Overlap → Change
change_of r = record { first = r.first; last = r.last; older = r.older.class; newer = r.newer.class }

-- 8 with the number of changes where there is room for fewer
abbrev pub room_by : ℕ → ℕ → Result (Unit {0}) PairRefusal
room_by room count = cond (ltb room count) (Err (Neither (Room count))) (Ok tt)
