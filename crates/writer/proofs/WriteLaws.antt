-- What the writer's answers say of the words, the profile and the buffer, exactly when. Assumes nothing.
use Prim.Native.Nat.{ℕ, ◌%◌, ◌≤◌}
use mathlib.Core.Path.{◌≡◌, refl, sym, ap, ◌∙◌}
use mathlib.Core.List.{List}
use mathlib.Core.Bool.{Bool, true, false, cond}
use mathlib.Core.Option.{Option, none, some}
use lib.ListN.{length}
use lib.Dec.{leb, eqb}
use borrow.Author.Tests.{leb-true, leb-false, eqb-true, eqb-false, le-leb, lt-leb, eq-eqb, ne_eqb}
use Rattle.std.specs.Prelude.{Result, Ok, Err}
use Rattle.lists.proofs.BoolLaws.{impossible}
use Rattle.refusal.specs.declared.Refusal.{Refusal}
use Rattle.refusal.specs.declared.Refusal.TheVariants as refusal
use Rattle.image.specs.declared.Profile.{Profile}
use Rattle.image.specs.Limits.{max_ranges, max_entries, words_per_range}
use Rattle.image.specs.Ranges.{range_in}
use Rattle.image.specs.Profile.{point_in, role_in}
use Rattle.image.specs.Check.{records_refusal}
use Rattle.image.proofs.RecordsLaws.{records_mean, range_refused, entry_refused, none_refused}
use Rattle.writer.specs.Writable.{
  Shaped,
  CountsFit,
  Writable,
  WriteMeans,
  bad_shape,
  many_ranges,
  many_entries,
  bad_range,
  bad_entry,
  lacks_room,
  is_written,
}
use Rattle.writer.specs.Write.{ranges_in, bytes_needed, write_refusal_within, write_refusal, written_by, write_within, write_of, bytes_by, bytes_within, bytes_after}

module _ (words : List ℕ) (p : Profile) (room : ℕ) where
  -- what is left to refuse after the records, each count and the shape
  abbrev pub after_records : Option Refusal
  after_records = cond (leb (bytes_needed words p) room) none (some (refusal.Buffer (bytes_needed words p)))

  abbrev pub after_counts : Option Refusal
  after_counts = records_refusal (range_in words) (ranges_in words) (point_in p) (role_in p) p.used after_records

  abbrev after_first : Option Refusal
  after_first = cond (leb p.used max_entries) after_counts (some refusal.Header)

  abbrev after_shape : Option Refusal
  after_shape = cond (leb (ranges_in words) max_ranges) after_first (some refusal.Header)

  past_shape : Shaped words → write_refusal words p room ≡ after_shape
  unfolding write_refusal_within
  past_shape t = simp (eq-eqb (length words % words_per_range) 0 t)

  pub past_counts : CountsFit words p → write_refusal words p room ≡ after_counts
  past_counts h = past_shape h.shaped ∙ simp (le-leb _ _ h.few_ranges, le-leb _ _ h.few_entries)

  past_records : Writable words p → write_refusal words p room ≡ after_records
  past_records w = past_counts w.counted ∙ none_refused _ _ _ _ _ after_records w.ranges w.entries

  few_or_many : (b : Bool) → after_first ≡ some refusal.Header → cond b after_first (some refusal.Header) ≡ some refusal.Header
  few_or_many true e = e
  few_or_many false e = refl

  -- the answer, where it is known what refuses
  pub answer_by : (o : Option Refusal) → write_refusal words p room ≡ o → written_by words p o ≡ write_of words p room
  unfolding write_within
  answer_by o e = ap (written_by words p) (sym e)

module _ (version : ℕ) (words : List ℕ) (p : Profile) (out : List ℕ) where
  abbrev room : ℕ
  room = length out

  -- what the answer and the buffer say, where it is known what refuses
  abbrev By : Option Refusal → Type 0
  By o = WriteMeans version words p out (written_by words p o) (bytes_by version words p out o)

  by_room : Writable words p → (b : Bool) → leb (bytes_needed words p) room ≡ b → By (cond b none (some (refusal.Buffer (bytes_needed words p))))
  by_room w true e = is_written w (leb-true _ _ e)
  by_room w false e = lacks_room w (leb-false _ _ e)

  by_records : CountsFit words p → By (after_counts words p room)
  by_records h =
      records_mean (range_in words) (ranges_in words) (point_in p) (role_in p) p.used (after_records words p room) By (λ i f. bad_range h f) (λ g i f. bad_entry h g f)
      (λ g k. by_room (record { counted = h; ranges = g; entries = k }) _ refl)

  by_used : Shaped words → ranges_in words ≤ max_ranges → (b : Bool) → leb p.used max_entries ≡ b → By (cond b (after_counts words p room) (some refusal.Header))
  by_used t n true e = by_records (record { shaped = t; few_ranges = n; few_entries = leb-true _ _ e })
  by_used t n false e = many_entries t (leb-false _ _ e)

  by_count : Shaped words → (b : Bool) → leb (ranges_in words) max_ranges ≡ b → By (cond b (after_first words p room) (some refusal.Header))
  by_count t true e = by_used t (leb-true _ _ e) _ refl
  by_count t false e = many_ranges t (leb-false _ _ e)

  by_shape : (b : Bool) → eqb (length words % words_per_range) 0 ≡ b → By (cond b (after_shape words p room) (some refusal.Shape))
  by_shape true e = by_count (eqb-true _ _ e) _ refl
  by_shape false e = bad_shape (eqb-false _ _ e)

  -- what the answer and the buffer say
  pub write_means : (a : Result ℕ Refusal) (b : List ℕ) → write_of words p room ≡ a → bytes_after version words p out ≡ b → WriteMeans version words p out a b
  unfolding write_within bytes_within write_refusal_within
  write_means a b e f = rw (← e, ← f) (by_shape _ refl)

  write_by :
      (o : Option Refusal) → write_refusal words p room ≡ o
      → (write_of words p room ≡ written_by words p o) × (bytes_after version words p out ≡ bytes_by version words p out o)
  unfolding write_within bytes_within
  write_by o e = (ap (written_by words p) e, ap (bytes_by version words p out) e)

  -- and back: where it is so, those are they
  pub means_write :
      (a : Result ℕ Refusal) (b : List ℕ) → WriteMeans version words p out a b → (write_of words p room ≡ a) × (bytes_after version words p out ≡ b)
  unfolding write_refusal_within
  means_write _ _ (bad_shape n) = write_by (some refusal.Shape) (simp (ne_eqb (length words % words_per_range) 0 n))
  means_write _ _ (many_ranges t l) = write_by (some refusal.Header) (past_shape words p room t ∙ simp (lt-leb _ _ l))
  means_write _ _ (many_entries t l) =
      write_by (some refusal.Header) (past_shape words p room t ∙ few_or_many words p room (leb (ranges_in words) max_ranges) (simp (lt-leb _ _ l)))
  means_write _ _ (bad_range {i} h f) = write_by _ (past_counts words p room h ∙ range_refused _ _ _ _ _ _ i f)
  means_write _ _ (bad_entry {i} h g f) = write_by _ (past_counts words p room h ∙ entry_refused _ _ _ _ _ _ g i f)
  means_write _ _ (lacks_room w l) = write_by (some (refusal.Buffer (bytes_needed words p))) (past_records words p room w ∙ simp (lt-leb _ _ l))
  means_write _ _ (is_written w l) = write_by none (past_records words p room w ∙ simp (le-leb _ _ l))

  -- a refused call leaves the buffer as it was
  pub write_kept : (r : Refusal) → write_of words p room ≡ Err r → bytes_after version words p out ≡ out
  write_kept r e = go _ refl
    where
      go : (o : Option Refusal) → write_refusal words p room ≡ o → bytes_after version words p out ≡ out
      go none f = let g = (write_by none f).0 in impossible (cc)
      go (some q) f = (write_by (some q) f).1

  -- an answer with a length: what was written
  pub written_means :
      (len : ℕ) → write_of words p room ≡ Ok len
      → Writable words p × (len ≡ bytes_needed words p) × (len ≤ length out) × (bytes_after version words p out ≡ bytes_by version words p out none)
  written_means len e = go len _ (write_means (Ok len) _ e refl)
    where
      go :
          (len : ℕ) (b : List ℕ) → WriteMeans version words p out (Ok len) b
          → Writable words p × (len ≡ bytes_needed words p) × (len ≤ length out) × (b ≡ bytes_by version words p out none)
      go _ _ (is_written w l) = (w, refl, l, refl)
