-- Inner: no public statement cites this file.
-- Where a newer meaning of the units may end a reading elsewhere than the older one does (demand 3; docs/RULES.md, "The words of demand 3").
use Rattle.std.specs.Prelude.{◌≡◌, true, List, [], ◌∷◌, ◌⊎◌}
use Rattle.grammar.specs.Meaning.{Meaning}
use Rattle.image.specs.Permitted.{Permitted}

module _ {A : Type 0} (older newer : Meaning A) where
  -- the unit's class changes as is permitted, its kind of White is the same, and it is a medial in both or in none
  pub record Allowed (c : A) : Type 0 where
    pub permitted : Permitted (older.class c) (newer.class c)
    pub white : newer.white c ≡ older.white c
    pub medial : newer.medial c ≡ older.medial c

  -- the first unit, if there is one, has the class that it had
  abbrev pub ClassSettled : List A → Type 0
  ClassSettled [] = Unit {0}
  ClassSettled (c ∷ r) = newer.class c ≡ older.class c

  -- there is a first unit, and it has another class
  abbrev pub Changed : List A → Type 0
  Changed [] = ⊥
  Changed (c ∷ r) = newer.class c ≡ older.class c → ⊥

  -- the first unit has the class that it had, and so has the next where the first is a medial
  abbrev pub Firm : List A → Type 0
  Firm [] = Unit {0}
  Firm (c ∷ r) = (newer.class c ≡ older.class c) × (older.medial c ≡ true → ClassSettled r)

  -- the first unit has another class, or it is a medial and the next one has
  abbrev pub Touched : List A → Type 0
  Touched [] = ⊥
  Touched (c ∷ r) = Changed (c ∷ r) ⊎ ((older.medial c ≡ true) × Changed r)
