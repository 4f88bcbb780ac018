-- The classes of scalar values and their numbers (docs/RULES.md, "The class image").
use Rattle.std.specs.Prelude.{ℕ, zero, suc}

pub data Class : Type 0 where
  Unassigned Start Nonstart Syntax White Other : Class
  deriving Discrete as class_discrete

-- the number of each class in an image; 0 is the class of a scalar value in no range
abbrev pub class_number : Class → ℕ
class_number Unassigned = 0
class_number Start = 1
class_number Nonstart = 2
class_number Syntax = 3
class_number White = 4
class_number Other = 5

-- the class with a number; numbers above 5 name none
abbrev pub class_named : ℕ → Class
class_named zero = Unassigned
class_named (suc zero) = Start
class_named (suc (suc zero)) = Nonstart
class_named (suc (suc (suc zero))) = Syntax
class_named (suc (suc (suc (suc zero)))) = White
class_named (suc (suc (suc (suc (suc zero))))) = Other
class_named (suc (suc (suc (suc (suc (suc n)))))) = Unassigned
