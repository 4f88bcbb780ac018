-- `writer::judge_parts` meets its contract. Assumes nothing.
use Rattle.std.proofs.Common.{◌≡◌, sym, ◌∙◌, ℕ, ◌≤◌, ◌<◌, List, Some, None}
use borrow.Author.Tests.{eq-eqb, ne_eqb, le-leb, lt-leb}
use Rattle.std.specs.Prelude.{Ok, Err}
use Rattle.refusal.specs.declared.Refusal.TheVariants as refusal
use Rattle.image.specs.declared.Profile.{Profile}
use Rattle.image.specs.Limits.{max_ranges, max_entries}
use Rattle.image.specs.Ranges.{range_in, good_alone, follows}
use Rattle.image.specs.Profile.{point_in, role_in}
use Rattle.image.specs.Order.{entry_by, rises, first_bad}
use Rattle.image.proofs.OrderLaws as order
use Rattle.writer.specs.Write.{ranges_in, bytes_needed, write_within, write_of, write_refusal_within, write_refusal}
use Rattle.writer.specs.Writable.{Shaped}
use Rattle.writer.proofs.WriteLaws.{after_records, after_counts, past_counts, answer_by}
use Rattle.writer.proofs.judge_parts.Goals as goal
use Rattle.writer.proofs.judge_parts.Goals.{then-n-gt-MAX_RANGES-via-then-n-gt-MAX_RANGES, then-n-gt-MAX_RANGES-via-else-n-gt-MAX_RANGES+then-used-gt-MAX_ENTRIES}

-- what the two searches gave
module _
    (words : List ℕ) (p : Profile) (room : ℕ) (s : Shaped words) (n : ranges_in words ≤ max_ranges) (m : p.used ≤ max_entries)
  where
    past : write_refusal words p room ≡ after_counts words p room
    past = past_counts words p room (record { shaped = s; few_ranges = n; few_entries = m })

    range_bad :
        (i : ℕ) → Some i ≡ first_bad good_alone follows (range_in words) (ranges_in words)
        → Err (refusal.Range i) ≡ write_of words p room
    range_bad i e = answer_by words p room _ (past ∙ order.range_bad _ _ _ _ _ _ i e)

    module _ (e : None ≡ first_bad good_alone follows (range_in words) (ranges_in words)) where
      entry_bad :
          (j : ℕ) → Some j ≡ first_bad order.good_one rises (entry_by (point_in p) (role_in p)) p.used
          → Err (refusal.Entry j) ≡ write_of words p room
      entry_bad j f = answer_by words p room _ (past ∙ order.entry_bad _ _ _ _ _ _ e j f)

      module _ (f : None ≡ first_bad order.good_one rises (entry_by (point_in p) (role_in p)) p.used) where
        none_bad : write_refusal words p room ≡ after_records words p room
        none_bad = past ∙ order.no_bad _ _ _ _ _ _ e f

        lacks_room : room < bytes_needed words p → Err (refusal.Buffer (bytes_needed words p)) ≡ write_of words p room
        unfolding write_within
        lacks_room r = rw none_bad (simp (lt-leb _ _ r))

        has_room : bytes_needed words p ≤ room → Ok (bytes_needed words p) ≡ write_of words p room
        unfolding write_within
        has_room r = rw none_bad (simp (le-leb _ _ r))

pub returns-then-words-ne0 : goal.returns-then-words-ne0
unfolding write_within write_refusal_within
returns-then-words-ne0 c = simp (ne_eqb _ _ c.if-words-ne0.true)

pub returns-then-n-gt-MAX_RANGES : goal.returns-then-n-gt-MAX_RANGES
unfolding write_within write_refusal_within
returns-then-n-gt-MAX_RANGES c =
    elim c.then-n-gt-MAX_RANGES.branch [
      | then-n-gt-MAX_RANGES-via-then-n-gt-MAX_RANGES w ↦ simp (eq-eqb _ _ c.if-words-ne0.false, lt-leb _ _ w.if-n-gt-MAX_RANGES.true)
      | then-n-gt-MAX_RANGES-via-else-n-gt-MAX_RANGES+then-used-gt-MAX_ENTRIES w ↦
          simp (
            eq-eqb _ _ c.if-words-ne0.false,
            le-leb _ _ w.if-n-gt-MAX_RANGES.false,
            lt-leb _ _ w.if-used-gt-MAX_ENTRIES.true,
          )
    ]

pub returns-in-Some : goal.returns-in-Some
returns-in-Some c =
    range_bad _ _ _ c.if-words-ne0.false c.if-n-gt-MAX_RANGES.false c.if-used-gt-MAX_ENTRIES.false _
    (sym c.in-Some.is ∙ c.first_bad.ensures)

pub returns-in-Some-first_bad : goal.returns-in-Some-first_bad
returns-in-Some-first_bad c =
    entry_bad _ _ _ c.if-words-ne0.false c.if-n-gt-MAX_RANGES.false c.if-used-gt-MAX_ENTRIES.false
    (sym c.in_default.is ∙ c.first_bad.ensures) _ (sym c.in-Some-first_bad.is ∙ c.first_bad-2.ensures)

pub returns-then-room-len : goal.returns-then-room-len
returns-then-room-len c =
    lacks_room _ _ _ c.if-words-ne0.false c.if-n-gt-MAX_RANGES.false c.if-used-gt-MAX_ENTRIES.false
    (sym c.in_default.is ∙ c.first_bad.ensures) (sym c.in_default-first_bad.is ∙ c.first_bad-2.ensures) c.if-room-len.true

pub returns : goal.returns
returns c =
    has_room _ _ _ c.if-words-ne0.false c.if-n-gt-MAX_RANGES.false c.if-used-gt-MAX_ENTRIES.false
    (sym c.in_default.is ∙ c.first_bad.ensures) (sym c.in_default-first_bad.is ∙ c.first_bad-2.ensures) c.if-room-len.false
