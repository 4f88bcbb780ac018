-- The first index at which a test holds; and what it is that every index is good, or one is the first that isn't.
use Rattle.std.specs.Prelude.{ℕ, zero, suc, ◌<◌, ◌≡◌, Bool, true, cond}

-- of the k indexes from i on, the first at which f holds, or i + k
unfoldable pub first_from : (ℕ → Bool) → ℕ → ℕ → ℕ
first_from f zero i = i
first_from f (suc k) i = cond (f i) i (first_from f k (suc i))

-- the first index below n at which f holds, or n
unfoldable pub first_where : (ℕ → Bool) → ℕ → ℕ
first_where f n = first_from f n 0

-- good at every index below n
abbrev pub AllGood : (ℕ → Type 0) → ℕ → Type 0
AllGood Good n = (i : ℕ) → i < n → Good i

-- i of n is the first index that isn't good
pub record FirstBad (Good : ℕ → Type 0) (n i : ℕ) : Type 0 where
  pub within : i < n
  pub bad : Good i → ⊥
  pub before : AllGood Good i

-- the test holds exactly at the good indexes
pub record Decides (good : ℕ → Bool) (Good : ℕ → Type 0) : Type 0 where
  pub to : (i : ℕ) → good i ≡ true → Good i
  pub from : (i : ℕ) → Good i → good i ≡ true
