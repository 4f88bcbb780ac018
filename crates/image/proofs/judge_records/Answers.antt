-- `image::judge_records` meets its contract. Assumes nothing.
use Rattle.std.proofs.Common.{◌≡◌, sym, ap, ◌∙◌, ℕ, true, List, Some, None, arith}
use mathlib.Core.Option.{none, some}
use Rattle.refusal.specs.declared.Refusal.TheVariants as refusal
use Rattle.image.specs.Header.{range_count, entry_count, length_right, header_right}
use Rattle.image.specs.Ranges.{range_at, good_alone, follows}
use Rattle.image.specs.Profile.{point_at, role_at}
use Rattle.image.specs.Check.{refusal_of}
use Rattle.image.specs.Accepted.{Headed}
use Rattle.image.specs.Order.{entry_by, rises, first_bad}
use Rattle.image.proofs.ImageLaws.{sized, headed, past_header, refuses, accepts}
use Rattle.image.proofs.OrderLaws.{good_one, range_bad, entry_bad, no_bad}
use Rattle.image.proofs.judge_records.Goals as goal

right : (s : List ℕ) → (length_right s ≡ true) × (header_right s ≡ true) → Headed s
right s p = headed s (sized s p.0) p.1

-- n is the number of ranges, and m that of entries
module _ (s : List ℕ) (h : Headed s) (n : ℕ) (en : n ≡ range_count s) where
  range_refused : (i : ℕ) → Some i ≡ first_bad good_alone follows (range_at s) n → refusal_of s ≡ some (refusal.Range i)
  range_refused i e = past_header s h ∙ range_bad _ _ _ _ _ none i (e ∙ ap (first_bad good_alone follows (range_at s)) en)

  -- t are the same bytes, as the list of the entries has them
  module _ (e : None ≡ first_bad good_alone follows (range_at s) n) (t : List ℕ) (m : ℕ) (es : t ≡ s) (em : m ≡ entry_count s) where
    good : None ≡ first_bad good_alone follows (range_at s) (range_count s)
    good = e ∙ ap (first_bad good_alone follows (range_at s)) en

    entries : first_bad good_one rises (entry_by (point_at t) (role_at t)) m ≡ first_bad good_one rises (entry_by (point_at s) (role_at s)) (entry_count s)
    entries = λ d. first_bad good_one rises (entry_by (point_at (es d)) (role_at (es d))) (em d)

    entry_refused : (j : ℕ) → Some j ≡ first_bad good_one rises (entry_by (point_at t) (role_at t)) m → refusal_of s ≡ some (refusal.Entry j)
    entry_refused j f = past_header s h ∙ entry_bad _ _ _ _ _ none good j (f ∙ entries)

    none_refused : None ≡ first_bad good_one rises (entry_by (point_at t) (role_at t)) m → refusal_of s ≡ none
    none_refused f = past_header s h ∙ no_bad _ _ _ _ _ none good (f ∙ entries)

pub word-n-requires : goal.word-n-requires
word-n-requires c = let h = right _ c.requires in omega arith

pub word-requires : goal.word-requires
word-requires c = let h = right _ c.requires in omega arith

pub invariant_of-first_bad : goal.invariant_of-first_bad
invariant_of-first_bad c = let h = right _ c.requires in record { fits = omega arith }

pub returns-in-Some : goal.returns-in-Some
returns-in-Some c = refuses _ _ (range_refused _ (right _ c.requires) _ c.word-n.ensures _ (sym c.in-Some.is ∙ c.first_bad.ensures))

pub of-requires : goal.of-requires
of-requires c = let h = right _ c.requires in omega arith

pub returns-in-Some-first_bad : goal.returns-in-Some-first_bad
returns-in-Some-first_bad c =
    refuses _ _
    (entry_refused _ (right _ c.requires) _ c.word-n.ensures (sym c.in_default.is ∙ c.first_bad.ensures) _ _ c.of.ensures.0 c.of.ensures.1 _
    (sym c.in-Some-first_bad.is ∙ c.first_bad-2.ensures))

pub returns : goal.returns
returns c =
    accepts _
    (none_refused _ (right _ c.requires) _ c.word-n.ensures (sym c.in_default.is ∙ c.first_bad.ensures) _ _ c.of.ensures.0 c.of.ensures.1
    (sym c.in_default-first_bad.is ∙ c.first_bad-2.ensures))
    _ _ c.word.ensures c.word-n.ensures
