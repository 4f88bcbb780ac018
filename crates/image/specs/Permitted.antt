-- The permitted changes of a class from one version to a later one (docs/RULES.md, "Permitted changes"; UAX #31, Table 1).
use Rattle.std.specs.Prelude.{◌≡◌}
use Rattle.image.specs.Class.{Class, Unassigned, Start, Nonstart, Other}

-- 0 to 1, 2 or 5; 5 to 1 or 2; 2 to 1; and no change
pub data Permitted : Class → Class → Type 0 where
  same : {a b : Class} → a ≡ b → Permitted a b
  unassigned_start : Permitted Unassigned Start
  unassigned_nonstart : Permitted Unassigned Nonstart
  unassigned_other : Permitted Unassigned Other
  other_start : Permitted Other Start
  other_nonstart : Permitted Other Nonstart
  nonstart_start : Permitted Nonstart Start
