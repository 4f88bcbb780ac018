-- Lists made from a function of the index.
use Rattle.std.specs.Prelude.{ℕ, zero, suc, ◌-◌, List, [], ◌∷◌, ◌++◌, replicate}

-- f i ++ f (i + 1) ++ .., for k indexes from i on
unfoldable pub each_from : (ℕ → List ℕ) → ℕ → ℕ → List ℕ
each_from f zero i = []
each_from f (suc k) i = f i ++ each_from f k (suc i)

-- f 0 ++ f 1 ++ .. ++ f (n - 1)
unfoldable pub each : (ℕ → List ℕ) → ℕ → List ℕ
each f n = each_from f n 0

-- one value for each index
abbrev pub single : (ℕ → ℕ) → ℕ → List ℕ
single f i = f i ∷ []

-- an array of `size` values: the first m are f 0, f 1, .., the others zero
unfoldable pub column : ℕ → (ℕ → ℕ) → ℕ → List ℕ
column size f m = each (single f) m ++ replicate (size - m) 0
