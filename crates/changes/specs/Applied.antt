-- What a list of changes does to a value, and the first of its changes for which something does not hold (docs/RULES.md, "What changed").
use Rattle.std.specs.Prelude.{ℕ, List, [], ◌∷◌, ◌&&◌, cond, leb}
use Rattle.image.specs.Class.{class_named}
use Rattle.image.specs.Permitted.{Permitted}
use Rattle.changes.specs.Change.{Change}

-- the value of x after the changes of a list, where v is the one before: the newer value of the change that holds x, else v
unfoldable pub changed_by : List Change → ℕ → ℕ → ℕ
changed_by [] x v = v
changed_by (c ∷ l) x v = cond (leb c.first x && leb x c.last) c.newer (changed_by l x v)

-- a change of class that is permitted
abbrev pub PermittedChange : Change → Type 0
PermittedChange c = Permitted (class_named c.older) (class_named c.newer)

-- the first change of a list for which P does not hold begins at this number
pub data FirstNot (P : Change → Type 0) : List Change → ℕ → Type 0 where
  here : {c : Change} {l : List Change} → (P c → ⊥) → FirstNot P (c ∷ l) c.first
  later : {c : Change} {l : List Change} {x : ℕ} → P c → FirstNot P l x → FirstNot P (c ∷ l) x
