-- A change, and what the list of the changes between two functions of a number is, apart from any way to find it
-- (docs/RULES.md, "What changed"). The functions are the classes in the ranges of two images, or the roles in their profiles.
--
--   Change             the numbers from a first to a last, and the older and the newer value of each
--   Holds              a number is one of a change's
--   Each, Neighbours   something holds of each change of a list; of each two that are neighbours in it
--   Before             a change ends before another begins
--   Apart              two changes could not be one
--   Alone              a change is of one number
--   Changed            the numbers of a change are scalar values that have its two values, which differ
--   AllChanges         the changes of a list rise, and hold exactly the scalar values whose values differ
--   Runs               the list of all changes, as long as they can be
--   Singles            the list of all changes, of one number each
use Rattle.std.specs.Prelude.{ℕ, ◌+◌, ◌≤◌, ◌<◌, ◌≡◌, true}
use mathlib.Core.List.{List, [], ◌∷◌, Memᴰ}
use Rattle.utf8.specs.Scalar.{is_scalar}

pub record Change : Type 0 where
  pub first : ℕ
  pub last : ℕ
  pub older : ℕ
  pub newer : ℕ

pub record Holds (c : Change) (x : ℕ) : Type 0 where
  pub from : c.first ≤ x
  pub to : x ≤ c.last

abbrev pub Each : (Change → Type 0) → List Change → Type 0
Each P l = (c : Change) → Memᴰ c l → P c

pub data Neighbours (R : Change → Change → Type 0) : List Change → Type 0 where
  empty : Neighbours R []
  one : {c : Change} → Neighbours R (c ∷ [])
  two : {c d : Change} {l : List Change} → R c d → Neighbours R (d ∷ l) → Neighbours R (c ∷ d ∷ l)

abbrev pub Before : Change → Change → Type 0
Before c d = c.last < d.first

-- d doesn't begin right after c, or has another older or newer value
abbrev pub Apart : Change → Change → Type 0
Apart c d = c.last + 1 ≡ d.first → c.older ≡ d.older → c.newer ≡ d.newer → ⊥

abbrev pub Alone : Change → Type 0
Alone c = c.first ≡ c.last

module _ (f g : ℕ → ℕ) where
  -- there is at least one number
  pub record Changed (c : Change) : Type 0 where
    pub some : c.first ≤ c.last
    pub scalar : (x : ℕ) → Holds c x → is_scalar x ≡ true
    pub older_is : (x : ℕ) → Holds c x → f x ≡ c.older
    pub newer_is : (x : ℕ) → Holds c x → g x ≡ c.newer
    pub differ : c.older ≡ c.newer → ⊥

  -- so each of these is in exactly one
  pub record AllChanges (l : List Change) : Type 0 where
    pub told : Each Changed l
    pub covered : (x : ℕ) → is_scalar x ≡ true → (f x ≡ g x → ⊥) → (c : Change) × Memᴰ c l × Holds c x
    pub rises : Neighbours Before l

  -- no two neighbours could be one
  pub record Runs (l : List Change) : Type 0 where
    pub all : AllChanges l
    pub whole : Neighbours Apart l

  pub record Singles (l : List Change) : Type 0 where
    pub all : AllChanges l
    pub alone : Each Alone l
