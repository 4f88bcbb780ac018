-- The first bad record of a list, as an option: what a loop finds, and what an answer says of the ranges and the entries. Assumes nothing.
use Rattle.std.proofs.Common.{◌≡◌, refl, sym, ap, ◌∙◌, ℕ, ◌≤◌, ◌<◌, Bool, false, Some, None, List, arith}
use Rattle.std.proofs.lemmas.Bool.Decides.{nat_tests}
use borrow.Author.Tests.{lt-ltb, le-ltb}
use mathlib.Core.Option as old
use Rattle.lists.specs.First.{first_where}
use Rattle.lists.proofs.SearchLaws.{Searching, bad, bad_here, none_bad}
use Rattle.refusal.specs.declared.Refusal.{Refusal}
use Rattle.refusal.specs.declared.Refusal.TheVariants as refusal
use Rattle.image.specs.declared.Range.{Range}
use Rattle.image.specs.declared.order.Entry.{Entry}
use Rattle.image.specs.Ranges.{good_alone, follows, good_range, first_bad_range}
use Rattle.image.specs.Profile.{point_at, role_at, good_entry_alone, good_entry, first_bad_entry}
use Rattle.image.specs.Check.{records_refusal}
use Rattle.image.specs.Order.{entry_by, rises, below, first_bad}
use Rattle.image.proofs.RecordsLaws.{range_found, entry_found, none_found}

-- an index below n, and one that isn't
pub below_is : (n i : ℕ) → i < n → below n i ≡ Some i
below_is n i h = rw (lt-ltb i n h) refl

pub below_not : (n i : ℕ) → n ≤ i → below n i ≡ None
below_not n i h = rw (le-ltb i n h) refl

module _ {good : ℕ → Bool} {n i : ℕ} (h : Searching good n i) where
  pub bad_given : i < n → good i ≡ false → Some i ≡ below n (first_where (bad good) n)
  bad_given l e = sym (below_is n i l) ∙ ap (below n) (bad_here h l e)

  pub none_given : n ≤ i → None ≡ below n (first_where (bad good) n)
  none_given l = sym (below_not n i l) ∙ ap (below n) (none_bad h l)

-- what the option says of the index
index_is : (n j i : ℕ) → Some i ≡ below n j → (i ≡ j) × (i < n)
index_is n j i e = grind (arith, nat_tests)

index_past : (n j : ℕ) → None ≡ below n j → n ≤ j
index_past n j e = grind (arith, nat_tests)

-- an entry that was read from the same bytes
pub entry_same :
    (i : ℕ) {s t : List ℕ} {e : Entry} → s ≡ t → e ≡ entry_by (point_at s) (role_at s) i → e ≡ entry_by (point_at t) (role_at t) i
entry_same i h k = k ∙ ap (λ (b : List ℕ). entry_by (point_at b) (role_at b) i) h

abbrev pub good_one : Entry → Bool
good_one e = good_entry_alone e.point e.role

module _ (at : ℕ → Range) (n : ℕ) (point role : ℕ → ℕ) (m : ℕ) (rest : old.Option Refusal) where
  ranges_by : first_bad good_alone follows at n ≡ below n (first_bad_range at n)
  unfolding first_bad first_bad_range good_range
  ranges_by = refl

  entries_by : first_bad good_one rises (entry_by point role) m ≡ below m (first_bad_entry point role m)
  unfolding first_bad first_bad_entry good_entry
  entries_by = refl

  -- the refusal, by what the two searches gave
  pub range_bad : (i : ℕ) → Some i ≡ first_bad good_alone follows at n → records_refusal at n point role m rest ≡ old.some (refusal.Range i)
  range_bad i e = let h = index_is n _ i (e ∙ ranges_by) in range_found at n point role m rest i h.0 h.1

  module _ (e : None ≡ first_bad good_alone follows at n) where
    pub entry_bad :
        (j : ℕ) → Some j ≡ first_bad good_one rises (entry_by point role) m → records_refusal at n point role m rest ≡ old.some (refusal.Entry j)
    entry_bad j f =
        let h = index_is m _ j (f ∙ entries_by) in
        entry_found at n point role m rest _ refl (index_past n _ (e ∙ ranges_by)) j h.0 h.1

    pub no_bad : None ≡ first_bad good_one rises (entry_by point role) m → records_refusal at n point role m rest ≡ rest
    no_bad f = none_found at n point role m rest _ refl (index_past n _ (e ∙ ranges_by)) _ refl (index_past m _ (f ∙ entries_by))
