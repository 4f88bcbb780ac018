-- The permitted changes as a test on class numbers (docs/RULES.md, "Permitted changes"). `proofs/ChangeLaws.antt` joins it to `Permitted`
-- of crate image.
use Rattle.std.specs.Prelude.{ℕ, Bool, true, false, ◌||◌, cond, eqb}
use Rattle.image.specs.Class.{Unassigned, Start, Nonstart, Other, class_number}

-- Start or Nonstart
unfoldable pub is_continue_class : ℕ → Bool
is_continue_class class = eqb class (class_number Start) || eqb class (class_number Nonstart)

-- 0 to 1, 2 or 5; 5 to 1 or 2; 2 to 1; and no change
unfoldable pub permitted : ℕ → ℕ → Bool
permitted older newer =
    cond (eqb newer older) true
    (cond (eqb older (class_number Unassigned)) (is_continue_class newer || eqb newer (class_number Other))
    (cond (eqb older (class_number Other)) (is_continue_class newer)
    (cond (eqb older (class_number Nonstart)) (eqb newer (class_number Start)) false)))
