-- Filling a table place by place. Assumes nothing.
use Prim.Native.Nat.{ℕ, ◌+◌, ◌≤◌, ◌<◌}
use mathlib.Core.Path.{◌≡◌, sym, ap, ◌∙◌}
use mathlib.Core.List.{List}
use native.Mathlib.Omega.{arith}
use native.Mathlib.Decide.{dec_lt}
use lib.ListN.{length, get_or, set, length-set}
use lib.Seq.{get_or-set_same, get_or-set_other}
use Rattle.lists.specs.Filled.{Filled}

module _ {size : ℕ} {f : ℕ → ℕ} {t : List ℕ} where
  pub filled_none : length t ≡ size → Filled size f t 0
  filled_none l = record { long = l; each = λ y h. absurd (omega arith) }

  -- one more place
  pub filled_more : {k : ℕ} (v : ℕ) → k < size → Filled size f t k → v ≡ f k → Filled size f (set t k v) (k + 1)
  filled_more {k} v h i e = record { long = length-set t k v ∙ i.long; each = λ y l. go y l (dec_lt y k) }
    where
      go : (y : ℕ) → y < k + 1 → Dec (y < k) → get_or (set t k v) y 0 ≡ f y
      go y l (yes p) = get_or-set_other t k y v 0 (λ q. absurd (omega arith)) ∙ i.each y p
      go y l (no p) =
          let q : y ≡ k = omega arith in
          let b = i.long in
          ap (λ (j : ℕ). get_or (set t k v) j 0) q ∙ get_or-set_same t k v 0 (omega arith) ∙ e ∙ ap f (sym q)

  -- .. and the last one
  pub filled_all : {k : ℕ} → Filled size f t k → size ≤ k → Filled size f t size
  filled_all i h = record { long = i.long; each = λ y l. i.each y (omega arith) }
