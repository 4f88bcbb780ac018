-- Inner: no public statement cites this file.
-- Lists of records in order, of ranges or of profile entries, given by a function of the index, as `first_bad` of src/order.rt searches them.
use Rattle.std.specs.Prelude.{ℕ, ◌-◌, Bool, not, ◌&&◌, ◌||◌, cond, ltb, eqb, Option, Some, None}
use Rattle.lists.specs.First.{first_where}
use Rattle.image.specs.declared.order.Entry.{Entry}

-- entry i as a record
abbrev pub entry_by : (ℕ → ℕ) → (ℕ → ℕ) → ℕ → Entry
entry_by point role i = record { point = point i; role = role i }

-- the code points rise
abbrev pub rises : Entry → Entry → Bool
rises p e = ltb p.point e.point

-- an index of n, where it is one
abbrev pub below : ℕ → ℕ → Option ℕ
below n i = cond (ltb i n) (Some i) None

module _ {R : Type 0} (good : R → Bool) (after : R → R → Bool) (at : ℕ → R) where
  -- good by itself, and after the record before
  abbrev pub good_record : ℕ → Bool
  good_record i = good (at i) && (eqb i 0 || after (at (i - 1)) (at i))

  -- the index of the first bad record of n
  unfoldable pub first_bad : ℕ → Option ℕ
  first_bad n = below n (first_where (λ (i : ℕ). not (good_record i)) n)
