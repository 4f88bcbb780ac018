-- What the rules of tokens know of a unit: its class, its kind of White if that is its class, and whether it is a medial
-- (docs/RULES.md, "The class image", roles, and "Tokens").
use Rattle.std.specs.Prelude.{Bool}
use Rattle.image.specs.Class.{Class}
use Rattle.grammar.specs.White.{WhiteKind}

pub record Meaning (A : Type 0) : Type 0 where
  pub class : A → Class
  pub white : A → WhiteKind
  pub medial : A → Bool
