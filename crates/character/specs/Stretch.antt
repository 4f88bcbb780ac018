-- Inner: no public statement cites this file.
-- Stretches of code points that have one class in the ranges, or one role in the profile (docs/RULES.md, "The class image"), or one
-- kind of White ("Tokens").
use Rattle.std.specs.Prelude.{ℕ, ◌≤◌, ◌≡◌, List}
use Rattle.grammar.specs.White.{white_of}
use Rattle.image.specs.declared.Range.{Range}
use Rattle.image.specs.declared.records.Section.{Section}
use Rattle.image.specs.Records.{section_class}
use Rattle.character.specs.Traits.{white_part}

-- x lies in the stretch r, and every number of r has its class in the section
pub record StretchOf (s : List ℕ) (section : Section) (x : ℕ) (r : Range) : Type 0 where
  pub from : r.first ≤ x
  pub to : x ≤ r.last
  pub same : (y : ℕ) → r.first ≤ y → y ≤ r.last → section_class s section y ≡ r.class

-- x lies in the stretch r, and every number of r has its kind of White
pub record WhiteStretchOf (x : ℕ) (r : Range) : Type 0 where
  pub from : r.first ≤ x
  pub to : x ≤ r.last
  pub same : (y : ℕ) → r.first ≤ y → y ≤ r.last → white_part (white_of y) ≡ r.class

-- the numbers of the stretch r are those that lie in both a and b, and its class is that of b
pub record Shared (a b r : Range) : Type 0 where
  pub in_both : (y : ℕ) → r.first ≤ y → y ≤ r.last → (a.first ≤ y) × (y ≤ a.last) × (b.first ≤ y) × (y ≤ b.last)
  pub from : (y : ℕ) → a.first ≤ y → b.first ≤ y → r.first ≤ y
  pub to : (y : ℕ) → y ≤ a.last → y ≤ b.last → y ≤ r.last
  pub class : r.class ≡ b.class
