-- Profile sections compared entry by entry. Assumes nothing.
use Prim.Native.Nat.{ℕ, zero, suc, ◌+◌}
use mathlib.Core.Path.{◌≡◌, sym}
use mathlib.Core.List.{List}
use mathlib.Core.Bool.{Bool, true, false, not, ◌&&◌, cond}
use native.Mathlib.Numerals.{add-one}
use native.Mathlib.Omega.{arith}
use lib.Dec.{eqb}
use borrow.Author.Tests.{eq-eqb, ne_eqb}
use Rattle.std.specs.List.{list_all, range_with_len}
use Rattle.lists.specs.First.{first_from, first_where}
use Rattle.image.specs.Header.{entry_count}
use Rattle.pair.specs.Pair.{differs_at, same_entries, same_profile}

-- whether no test holds: asked of each, and of the first that does
none_holds : (f : ℕ → Bool) (k i : ℕ) → list_all (λ j. not (f j)) (range_with_len i k) ≡ eqb (first_from f k i) (i + k)
unfolding first_from
none_holds f zero i = sym (eq-eqb _ _ (omega arith))
none_holds f (suc k) i = go (f i) _ (none_holds f k (i + 1))
  where
    go : (t b : Bool) → b ≡ eqb (first_from f k (i + 1)) (i + 1 + k) → (not t && b) ≡ eqb (cond t i (first_from f k (suc i))) (i + suc k)
    go true b h = sym (ne_eqb i (i + suc k) (λ z. omega arith))
    go false b h = let z : i + suc k ≡ suc i + k = omega arith in rw z (rw add-one at h)

module _ (older newer : List ℕ) where
  pub other_count : (entry_count newer ≡ entry_count older → ⊥) → false ≡ same_profile older newer
  unfolding same_profile
  other_count d = sym (simp (ne_eqb _ _ d))

  pub same_count :
      entry_count newer ≡ entry_count older
      → list_all (λ i. not (differs_at older newer i)) (range_with_len 0 (entry_count older)) ≡ same_profile older newer
  unfolding same_profile same_entries first_where
  same_count e =
      let z : 0 + entry_count older ≡ entry_count older = omega arith in
      simp (eq-eqb _ _ e) (rw z at (none_holds (differs_at older newer) (entry_count older) 0))
