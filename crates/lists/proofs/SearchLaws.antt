-- Loops that look for the first index that isn't good, one index at a time. Assumes nothing.
use Prim.Native.Nat.{ℕ, ◌+◌, ◌-◌, ◌≤◌, ◌<◌}
use mathlib.Core.Path.{◌≡◌, sym, ap, ◌∙◌}
use mathlib.Core.Bool.{Bool, true, false, not}
use native.Mathlib.Omega.{arith}
use Rattle.lists.specs.First.{first_from, first_where}
use Rattle.lists.proofs.FirstLaws.{first_here, first_next, first_end, first_begins}

abbrev pub bad : (ℕ → Bool) → ℕ → Bool
bad good i = not (good i)

-- all before i are good: the search from i on finds what the whole search does
pub record Searching (good : ℕ → Bool) (n i : ℕ) : Type 0 where
  pub within : i ≤ n
  pub same : first_from (bad good) (n - i) i ≡ first_where (bad good) n

module _ {good : ℕ → Bool} {n : ℕ} where
  pub search_begins : Searching good n 0
  search_begins = record { within = omega arith; same = first_begins (bad good) n }

  module _ {i : ℕ} (h : Searching good n i) where
    pub good_next : i < n → good i ≡ true → Searching good n (i + 1)
    good_next l e = record { within = omega arith; same = sym (first_next (bad good) n i (ap not e) l) ∙ h.same }

    pub bad_here : i < n → good i ≡ false → i ≡ first_where (bad good) n
    bad_here l e = sym (first_here (bad good) n i (ap not e) l) ∙ h.same

    pub none_bad : n ≤ i → i ≡ first_where (bad good) n
    none_bad l = sym (first_end (bad good) n i l) ∙ h.same
