-- What each answer of the list of changes says of the two images and of the buffers, exactly when. Assumes nothing.
use Prim.Native.Nat.{ℕ, ◌/◌}
use mathlib.Core.Path.{◌≡◌, refl, sym, ap, ◌∙◌}
use mathlib.Core.Bool.{Bool, true, false}
use mathlib.Core.List.{List}
use mathlib.Core.Option.{Option, none, some}
use Rattle.std.specs.Prelude.{Result}
use lib.Dec.{ltb}
use lib.ListN.{length}
use borrow.Author.Tests.{ltb-true, ltb-false}
use Rattle.lists.specs.Laid.{laid}
use Rattle.refusal.specs.declared.Refusal.{Refusal}
use Rattle.image.specs.Check.{refusal_of}
use Rattle.image.specs.Accepted.{Accepted}
use Rattle.image.proofs.ImageLaws.{accepted, refused_none, refusal_means, means_refusal}
use Rattle.image.specs.declared.records.Section.TheVariants.{Ranges, Entries}
use Rattle.pair.specs.declared.PairRefusal.{PairRefusal}
use Rattle.pair.specs.Judged.{judged_by}
use Rattle.changes.specs.Change.{Change}
use Rattle.changes.specs.ChangeList.{runs_of, entries_of}
use Rattle.changes.specs.Answer.{change_size, list_words, listed_of, changes_by, answer_within, answer_of, buffer_after, runs_after_within, runs_after, entries_after_within, entries_after}
use Rattle.changes.specs.Means.{BothLists, ChangesMeans, bad_older, bad_newer, few_runs, few_entries, both_listed}
use Rattle.changes.specs.declared.Lists.{Lists}
use Rattle.changes.proofs.RoomLaws.{lacks_runs, lacks_entries, lists_both, older_answer, newer_answer, accepted_answer, runs_by, entries_by}
use Rattle.changes.proofs.ChangesLaws.{runs_are, entries_are, are_runs, are_entries}

module _ (older newer out more : List ℕ) where
  -- an answer with what the buffers then hold
  abbrev Means : Result Lists PairRefusal → Type 0
  Means c = ChangesMeans older newer out more c (buffer_after Ranges older newer c out) (buffer_after Entries older newer c more)

  abbrev answer : Result Lists PairRefusal
  answer = answer_of older newer (length out) (length more)

  module _ (a : Accepted older) (b : Accepted newer) where
    both : BothLists older newer (runs_of older newer) (entries_of older newer)
    both =
        record { older_accepted = a; newer_accepted = b; class_runs = runs_are older newer a b; role_changes = entries_are older newer a b }

    abbrev listed : Result Lists PairRefusal
    listed = listed_of older newer (length out) (length more)

    means_listed :
        (s t : Bool) → ltb (length out / change_size Ranges) (length (runs_of older newer)) ≡ s
        → ltb (length more / change_size Entries) (length (entries_of older newer)) ≡ t → Means listed
    means_listed true t e f = rw (lacks_runs older newer _ _ (ltb-true _ _ e)) (few_runs both (ltb-true _ _ e))
    means_listed false true e f =
        rw (lacks_entries older newer _ _ (ltb-false _ _ e) (ltb-true _ _ f)) (few_entries both (ltb-false _ _ e) (ltb-true _ _ f))
    means_listed false false e f =
        rw (lists_both older newer _ _ (ltb-false _ _ e) (ltb-false _ _ f)) (both_listed both (ltb-false _ _ e) (ltb-false _ _ f))

    both_answer : answer ≡ listed
    both_answer = accepted_answer older newer _ _ (refused_none older a) (refused_none newer b)

  means_by :
      (o p : Option Refusal) → refusal_of older ≡ o → refusal_of newer ≡ p → Means (changes_by (judged_by o p) (listed_of older newer (length out) (length more)))
  means_by (some r) p e f = bad_older (refusal_means older (some r) e)
  means_by none (some r) e f = bad_newer (accepted older e) (refusal_means newer (some r) f)
  means_by none none e f = means_listed (accepted older e) (accepted newer f) _ _ refl refl

  -- what an answer says
  pub changes_mean :
      (c : Result Lists PairRefusal) (words others : List ℕ) → answer ≡ c → runs_after older newer out more ≡ words → entries_after older newer out more ≡ others
      → ChangesMeans older newer out more c words others
  unfolding answer_within runs_after_within entries_after_within
  changes_mean c words others e f g = rw (← e, ← f, ← g) (means_by _ _ refl refl)

  -- and back: where it is so, that is the answer, and the buffers hold this
  pub record Answers (c : Result Lists PairRefusal) (words others : List ℕ) : Type 0 where
    pub answered : answer ≡ c
    pub runs_after : runs_after older newer out more ≡ words
    pub entries_after : entries_after older newer out more ≡ others

  by_answer :
      (c : Result Lists PairRefusal) → answer ≡ c → {words others : List ℕ} → buffer_after Ranges older newer c out ≡ words → buffer_after Entries older newer c more ≡ others
      → Answers c words others
  by_answer c e f g =
      record {
        answered = e;
        runs_after = sym (runs_by older newer out more (sym e) refl) ∙ f;
        entries_after = sym (entries_by older newer out more (sym e) refl) ∙ g;
      }

  module _ {runs entries : List Change} (l : BothLists older newer runs entries) where
    abbrev a : Accepted older
    a = l.older_accepted

    abbrev b : Accepted newer
    b = l.newer_accepted

    -- the lists are the only ones
    the_runs : runs ≡ runs_of older newer
    the_runs = are_runs older newer a b l.class_runs

    the_entries : entries ≡ entries_of older newer
    the_entries = are_entries older newer a b l.role_changes

  pub means_changes : (c : Result Lists PairRefusal) (words others : List ℕ) → ChangesMeans older newer out more c words others → Answers c words others
  means_changes _ _ _ (bad_older {r} m) = by_answer _ (older_answer older newer _ _ (means_refusal older (some r) m)) refl refl
  means_changes _ _ _ (bad_newer {r} a m) =
      by_answer _ (newer_answer older newer _ _ (refused_none older a) (means_refusal newer (some r) m)) refl refl
  means_changes _ _ _ (few_runs {runs} {entries} l u) =
      let e = the_runs l in
      by_answer _ (both_answer (a l) (b l) ∙ rw e (lacks_runs older newer _ _ (rw e at u))) refl refl
  means_changes _ _ _ (few_entries {runs} {entries} l u v) =
      let e = the_runs l in
      let f = the_entries l in
      by_answer _ (both_answer (a l) (b l) ∙ rw f (lacks_entries older newer _ _ (rw e at u) (rw f at v))) refl refl
  means_changes _ _ _ (both_listed {runs} {entries} l u v) =
      let e = the_runs l in
      let f = the_entries l in
      by_answer _ (both_answer (a l) (b l) ∙ rw (e, f) (lists_both older newer _ _ (rw e at u) (rw f at v)))
      (ap (λ (m : List Change). laid out 0 (list_words Ranges m)) (sym e)) (ap (λ (m : List Change). laid more 0 (list_words Entries m)) (sym f))
