-- What the change lister lists of its input, what each answer means, exactly when, and that 8 is never its answer. Assumes nothing.
use Prim.Native.Nat.{ℕ, ◌*◌, ◌≤◌, ◌<◌}
use mathlib.Core.Path.{◌≡◌, refl, sym, ◌∙◌}
use mathlib.Core.List.{List}
use mathlib.Core.Option.{Option, none, some}
use native.Mathlib.Omega.{arith}
use lib.ListN.{length, take}
use Rattle.std.specs.Prelude.{Result, Ok, Err}
use Rattle.lists.proofs.BoolLaws.{impossible}
use Rattle.refusal.specs.declared.Refusal.{Refusal}
use Rattle.refusal.specs.declared.Refusal.TheVariants as refusal
use Rattle.image.specs.Limits.{max_image}
use Rattle.image.specs.Check.{refusal_of}
use Rattle.image.proofs.ImageLaws.{refusal_means}
use Rattle.image.proofs.LimitLaws.{long_refused}
use Rattle.image.specs.declared.records.Section.TheVariants.{Ranges, Entries}
use Rattle.pair.specs.declared.PairRefusal.{PairRefusal}
use Rattle.pair.specs.declared.PairRefusal.TheVariants.{Older, Neither}
use Rattle.changes.specs.Answer.{change_size, answer_of}
use Rattle.changes.specs.Means.{bad_older, both_listed}
use Rattle.changes.specs.declared.Lists.{Lists}
use Rattle.changes.proofs.RoomLaws.{older_answer, newer_answer, accepted_answer, lists_both}
use Rattle.changes.proofs.AnswerLaws.{changes_mean, Answers, means_changes}
use Rattle.changes.proofs.BoundLaws.{runs_by_limits, entries_by_limits}
use Rattle.input.specs.Front.{front_in as older_in, after_in as newer_in, ComesWhole}
use Rattle.input.proofs.FrontLaws.{dec_whole, end_whole, cut_refused, looks_no_further}
use Rattle.input.specs.Images.{answer_from, runs_from, entries_from, max_run_words, max_entry_words, whole_answer_within, whole_answer, ChangeListingMeans, cut_off, whole}

module _ (input out more : List ℕ) where
  cut_answers : (ComesWhole input → ⊥) → Answers (older_in input) (newer_in input) out more (Err (Older refusal.Length)) out more
  cut_answers f = means_changes _ _ out more _ _ _ (bad_older (refusal_means _ _ (cut_refused input f)))

  -- what an answer says
  pub change_listing_means :
      {c : Result Lists PairRefusal} {words others : List ℕ} → answer_from input (length out) (length more) ≡ c → runs_from input out more ≡ words
      → entries_from input out more ≡ others → ChangeListingMeans input out more c words others
  change_listing_means e f g = rw (← e, ← f, ← g) (go (dec_whole input))
    where
      go :
          Dec (ComesWhole input)
          → ChangeListingMeans input out more (answer_from input (length out) (length more)) (runs_from input out more)
          (entries_from input out more)
      go (yes w) = rw (end_whole input w) (whole w (changes_mean _ _ out more _ _ _ refl refl refl))
      go (no h) = let a = cut_answers h in rw (a.answered, a.runs_after, a.entries_after) (cut_off h)

  -- and back: where it is so, that is the answer, and the buffers hold this
  pub means_change_listing :
      {c : Result Lists PairRefusal} {words others : List ℕ} → ChangeListingMeans input out more c words others
      → Answers (older_in input) (newer_in input) out more c words others
  means_change_listing (cut_off f) = cut_answers f
  means_change_listing (whole w m) = rw (end_whole input w) (means_changes _ _ out more _ _ _ m)

-- changes that were listed have their words in the buffers
pub listed_fits :
    {input out more words others : List ℕ} {l : Lists} → ChangeListingMeans input out more (Ok l) words others
    → (change_size Ranges * l.runs ≤ length out) × (change_size Entries * l.entries ≤ length more)
listed_fits (whole w (both_listed l u v)) = (omega arith, omega arith)

-- the program's answer for two images
abbrev answer_at : List ℕ → List ℕ → Result Lists PairRefusal
answer_at older newer = answer_of older newer max_run_words max_entry_words

-- there is room for the most changes, so the program never answers 8
pub never_room : (input : List ℕ) (r : Refusal) → whole_answer input ≡ Err (Neither r) → ⊥
unfolding whole_answer_within
never_room input r e = go (older_in input) (newer_in input) _ _ refl refl e
  where
    go :
        (older newer : List ℕ) (o p : Option Refusal) → refusal_of older ≡ o → refusal_of newer ≡ p
        → answer_at older newer ≡ Err (Neither r) → ⊥
    go older newer (some s) p f g t = let a = older_answer older newer max_run_words max_entry_words f in impossible (cc)
    go older newer none (some s) f g t = let a = newer_answer older newer max_run_words max_entry_words f g in impossible (cc)
    go older newer none none f g t =
        let a = accepted_answer older newer max_run_words max_entry_words f g in
        let m = runs_by_limits older newer f g in
        let n = entries_by_limits older newer f g in
        let b = lists_both older newer max_run_words max_entry_words (omega arith) (omega arith) in
        impossible (cc)

-- its answer is that of the whole input, of which it reads two of the largest images and one byte
pub whole_answer_lem :
    (input : List ℕ) (k : ℕ) → 2 * max_image < k → (read : List ℕ) → take k input ≡ read
    → (words more : ℕ) → words ≡ max_run_words → more ≡ max_entry_words → answer_from read words more ≡ whole_answer input
unfolding whole_answer_within
whole_answer_lem input k h read e words more v w = rw (v, w) (looks_no_further answer_at max_image same_long input k (omega arith) read e)
  where
    same_long : (older s t : List ℕ) → max_image < length s → max_image < length t → answer_at older s ≡ answer_at older t
    same_long older s t h k = go (refusal_of older) refl
      where
        go : (o : Option Refusal) → refusal_of older ≡ o → answer_at older s ≡ answer_at older t
        go (some r) e = older_answer older s _ _ e ∙ sym (older_answer older t _ _ e)
        go none e = newer_answer older s _ _ e (long_refused _ s h) ∙ sym (newer_answer older t _ _ e (long_refused _ t k))
