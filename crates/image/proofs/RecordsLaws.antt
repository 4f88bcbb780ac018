-- A bad range, else a bad entry, else the rest: what `records_refusal` gives, exactly when. Checking and writing cite this. Assumes nothing.
use Prim.Native.Nat.{ℕ, ◌≤◌, ◌<◌}
use mathlib.Core.Path.{◌≡◌, refl, sym}
use mathlib.Core.Bool.{Bool, true, false, cond}
use mathlib.Core.Option.{Option, some}
use native.Mathlib.Omega.{arith}
use lib.Dec.{ltb}
use borrow.Author.Tests.{ltb-true, ltb-false, lt-ltb, le-ltb}
use Rattle.lists.specs.First.{AllGood, FirstBad}
use Rattle.lists.proofs.FirstLaws.{first_bad, all_good, first_is_bad, first_is_none}
use Rattle.refusal.specs.declared.Refusal.{Refusal}
use Rattle.refusal.specs.declared.Refusal.TheVariants as refusal
use Rattle.image.specs.Ranges.{good_range, first_bad_range}
use Rattle.image.specs.Profile.{good_entry, first_bad_entry}
use Rattle.image.specs.Good.{GoodRange, GoodEntry}
use Rattle.image.specs.Check.{refuse_at, records_refusal}
use Rattle.image.specs.declared.Range.{Range}
use Rattle.image.proofs.GoodLaws.{ranges_told, entries_told}

at_cases :
    (f : ℕ → Refusal) (k n : ℕ) (other : Option Refusal) (P : Option Refusal → Type 0) → (k < n → P (some (f k))) → (n ≤ k → P other)
    → P (refuse_at f k n other)
at_cases f k n other P p q = go (ltb k n) refl
  where
    go : (b : Bool) → ltb k n ≡ b → P (cond b (some (f k)) other)
    go true e = p (ltb-true _ _ e)
    go false e = q (ltb-false _ _ e)

module _ (at : ℕ → Range) (n : ℕ) (point role : ℕ → ℕ) (m : ℕ) (rest : Option Refusal) where
  abbrev Ranges : Type 0
  Ranges = AllGood (GoodRange at) n

  abbrev Entries : Type 0
  Entries = AllGood (GoodEntry point role) m

  -- what holds in each of the three cases holds of the refusal
  pub records_mean :
      (P : Option Refusal → Type 0) → ((i : ℕ) → FirstBad (GoodRange at) n i → P (some (refusal.Range i)))
      → (Ranges → (i : ℕ) → FirstBad (GoodEntry point role) m i → P (some (refusal.Entry i))) → (Ranges → Entries → P rest)
      → P (records_refusal at n point role m rest)
  unfolding records_refusal first_bad_range first_bad_entry
  records_mean P range entry none =
      at_cases refusal.Range _ n _ P (λ l. range _ (first_bad (good_range at) (GoodRange at) (ranges_told at) n l))
      (λ l.
      let g = all_good (good_range at) (GoodRange at) (ranges_told at) n l in
      at_cases refusal.Entry _ m _ P (λ k. entry g _ (first_bad (good_entry point role) (GoodEntry point role) (entries_told point role) m k))
      (λ k. none g (all_good (good_entry point role) (GoodEntry point role) (entries_told point role) m k)))

  -- and back: for a search that found index i in the ranges, and j in the entries
  module _ (i : ℕ) (ei : i ≡ first_bad_range at n) where
    pub range_found : i < n → records_refusal at n point role m rest ≡ some (refusal.Range i)
    unfolding records_refusal
    range_found l = rw (← ei) (simp (lt-ltb i n l))

    module _ (l : n ≤ i) (j : ℕ) (ej : j ≡ first_bad_entry point role m) where
      pub entry_found : j < m → records_refusal at n point role m rest ≡ some (refusal.Entry j)
      unfolding records_refusal
      entry_found k = rw (← ei, ← ej) (simp (le-ltb i n l, lt-ltb j m k))

      pub none_found : m ≤ j → records_refusal at n point role m rest ≡ rest
      unfolding records_refusal
      none_found k = rw (← ei, ← ej) (simp (le-ltb i n l, le-ltb j m k))

  no_range : Ranges → n ≡ first_bad_range at n
  unfolding first_bad_range
  no_range g = sym (first_is_none (good_range at) (GoodRange at) (ranges_told at) n g)

  pub range_refused : (i : ℕ) → FirstBad (GoodRange at) n i → records_refusal at n point role m rest ≡ some (refusal.Range i)
  unfolding first_bad_range
  range_refused i f = range_found i (sym (first_is_bad (good_range at) (GoodRange at) (ranges_told at) n i f)) f.within

  pub entry_refused : Ranges → (i : ℕ) → FirstBad (GoodEntry point role) m i → records_refusal at n point role m rest ≡ some (refusal.Entry i)
  unfolding first_bad_entry
  entry_refused g i f =
      entry_found n (no_range g) (omega arith) i (sym (first_is_bad (good_entry point role) (GoodEntry point role) (entries_told point role) m i f)) f.within

  pub none_refused : Ranges → Entries → records_refusal at n point role m rest ≡ rest
  unfolding first_bad_entry
  none_refused g h =
      none_found n (no_range g) (omega arith) m (sym (first_is_none (good_entry point role) (GoodEntry point role) (entries_told point role) m h)) (omega arith)
