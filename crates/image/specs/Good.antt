-- Good ranges and good profile entries in the words of docs/RULES.md, "The class image".
-- `proofs/GoodLaws.antt` joins this to the tests `good_range` and `good_entry`.
use Rattle.std.specs.Prelude.{ℕ, ◌+◌, ◌-◌, ◌≤◌, ◌<◌, ◌≡◌, true}
use Rattle.utf8.specs.Scalar.{is_scalar}
use Rattle.image.specs.Limits.{first_class, last_class, first_role, last_role, last_code_point, first_surrogate, last_surrogate}
use Rattle.image.specs.declared.Range.{Range}

-- range i of those that `at` gives
pub record GoodRange (at : ℕ → Range) (i : ℕ) : Type 0 where
  pub ordered : (at i).first ≤ (at i).last
  pub below : (at i).last ≤ last_code_point
  pub no_surrogate : (x : ℕ) → (at i).first ≤ x → x ≤ (at i).last → first_surrogate ≤ x → x ≤ last_surrogate → ⊥
  pub some_class : first_class ≤ (at i).class
  pub known_class : (at i).class ≤ last_class
  pub after : 0 < i → (at (i - 1)).last < (at i).first
  pub apart : 0 < i → (at (i - 1)).class ≡ (at i).class → (at (i - 1)).last + 1 ≡ (at i).first → ⊥

-- entry i of those with these code points and roles
pub record GoodEntry (point role : ℕ → ℕ) (i : ℕ) : Type 0 where
  pub scalar : is_scalar (point i) ≡ true
  pub some_role : first_role ≤ role i
  pub known_role : role i ≤ last_role
  pub rises : 0 < i → point (i - 1) < point i
