-- Two readers of which one allows no more profile entries than the other: they agree wherever the header is right by the lower limit.
-- Assumes nothing.
use Prim.Native.Nat.{ℕ, ◌*◌, ◌≤◌}
use mathlib.Core.Path.{◌≡◌, refl, sym, ap, ◌∙◌}
use mathlib.Core.List.{List}
use mathlib.Core.Option.{Option, none, some}
use native.Mathlib.Omega.{arith}
use lib.ListN.{length}
use Rattle.std.specs.Prelude.{Result}
use Rattle.refusal.specs.declared.Refusal.{Refusal}
use Rattle.refusal.specs.Outcome.{outcome_map}
use Rattle.image.specs.declared.Profile.{Profile}
use Rattle.image.specs.Limits.{max_entries}
use Rattle.image.specs.Same.{SameEntries}
use Rattle.image.specs.Accepted.{HeadedWithin}
use Rattle.image.specs.Check.{refusal_within}
use Rattle.image.proofs.LimitLaws.{header_still, same_refusal, same_check, same_read, same_words}
use Rattle.lookup.proofs.LimitLaws.{lookup_by_lem}
use Rattle.writer.proofs.LimitLaws.{answer_by_limits, bytes_by_limits}
use Rattle.pair.proofs.LimitLaws.{pair_by_lem}
use Rattle.pair.specs.Judged.{judged_by}
use Rattle.changes.specs.Answer.{answer_within, changes_by, listed_of}
use Rattle.pair.specs.declared.PairRefusal.{PairRefusal}
use Rattle.changes.specs.declared.Lists.{Lists}
use Rattle.changes.proofs.LimitLaws.{answer_by, runs_are, entries_are}
use Rattle.changes.proofs.RoomLaws.{lists_both}
use Rattle.changes.proofs.BoundLaws.{runs_by_limits, entries_by_records}
use Rattle.input.specs.Front.{image_in, rest_in, WholeWithin}
use Rattle.input.proofs.FrontLaws.{end_whole, sized_whole}
use Rattle.grammar.specs.Record.{listed_words, record_size}
use Rattle.grammar.specs.Before.{before_within}
use Rattle.grammar.specs.Reading.{outcome_within, count_within, roomed, written_within, list_within, laid_by, list_words_within}
use Rattle.token.specs.Taken.{taken_within}
use Rattle.hashtag.specs.Listed.{spans_words, found_within, hashtags_written_within, hashtag_list_within, hashtag_words_within}
use Rattle.grammar.specs.Counted.{counted_by}
use Rattle.input.specs.Script.{max_script, script_within, listed_within, script_words_within as script_words, whole_answer_within as whole_list}
use Rattle.input.specs.Images.{max_run_words, max_entry_words_within, answer_from_within, whole_answer_within as whole_changes}
use Rattle.limit.specs.Agree.{AgreeOnImage, AgreeOnPair, AgreeOnWriting, AgreeOnScript, AgreeOnChanges}

module _ (k l : ℕ) where
  -- the calls on one image, where it is refused with the same, or with nothing
  module _ (s : List ℕ) (e : refusal_within k s ≡ refusal_within l s) where
    same_outcome : (text : List ℕ) → outcome_within k s text ≡ outcome_within l s text
    unfolding outcome_within before_within
    same_outcome text = rw e

    same_written : (text : List ℕ) (words : ℕ) → written_within k s text words ≡ written_within l s text words
    unfolding written_within
    same_written text words = ap (roomed words) (same_outcome text)

    same_found : (text : List ℕ) (words : ℕ) → hashtags_written_within k s text words ≡ hashtags_written_within l s text words
    unfolding found_within before_within hashtags_written_within
    same_found text words = rw e

    same_taken : (text : List ℕ) (place : ℕ) → taken_within k s text place ≡ taken_within l s text place
    unfolding taken_within before_within
    same_taken text place = rw e

    agree_by : AgreeOnImage k l s
    unfolding count_within list_within list_words_within hashtag_list_within hashtag_words_within
    agree_by =
        record {
          checked = same_check k l s e;
          read = same_read k l s e;
          read_words = same_words k l s e;
          looked_up = λ x. lookup_by_lem k s x _ e ∙ sym (lookup_by_lem l s x _ refl);
          counted = λ text. ap (outcome_map length) (same_outcome text);
          listed = λ text words. ap (outcome_map length) (same_written text words);
          list_words = λ text out. ap (laid_by (listed_words text) out) (same_written text (length out));
          taken = same_taken;
          hashtags = λ text words. ap (outcome_map length) (same_found text words);
          hashtag_words = λ text out. ap (laid_by (spans_words text) out) (same_found text (length out));
        }

  -- the calls on two images
  module _ (older newer : List ℕ) (e : refusal_within k older ≡ refusal_within l older) (f : refusal_within k newer ≡ refusal_within l newer) where
    pair_agree_by : AgreeOnPair k l older newer
    pair_agree_by =
        record {
          compared = pair_by_lem k older newer _ _ e f ∙ sym (pair_by_lem l older newer _ _ refl refl);
          changes = λ words more. answer_by k older newer _ _ e f words more ∙ sym (answer_by l older newer _ _ refl refl words more);
          runs = λ out more. runs_are k older newer _ _ e f out more ∙ sym (runs_are l older newer _ _ refl refl out more);
          entries = λ out more. entries_are k older newer _ _ e f out more ∙ sym (entries_are l older newer _ _ refl refl out more);
        }

module _ (k l : ℕ) (fewer : k ≤ l) where
  pub agree : (s : List ℕ) → HeadedWithin k s → AgreeOnImage k l s
  agree s h = agree_by k l s (same_refusal k l s fewer h)

  pub pair_agree : (older newer : List ℕ) → HeadedWithin k older → HeadedWithin k newer → AgreeOnPair k l older newer
  pair_agree older newer h g = pair_agree_by k l older newer (same_refusal k l older fewer h) (same_refusal k l newer fewer g)

  pub writing_agree : (words : List ℕ) (p q : Profile) → SameEntries p q → p.used ≤ k → AgreeOnWriting k l words p q
  writing_agree words p q same h = record { answer = answer_by_limits k l words p q same h (omega arith); bytes = bytes_by_limits k l words p q same h (omega arith) }

  -- an image at the front of an input
  module _ (input : List ℕ) (h : HeadedWithin k (image_in input)) where
    whole : WholeWithin k input
    whole = sized_whole input h.sized

    whole_more : WholeWithin l input
    whole_more = sized_whole input (header_still {l = l} (image_in input) (omega (arith, h.few_entries)) h).sized

    same_script : (words : ℕ) → script_within k (image_in input) (rest_in input) words ≡ script_within l (image_in input) (rest_in input) words
    unfolding script_within before_within
    same_script words = let e = same_refusal k l (image_in input) fewer h in rw (e, same_written k l (image_in input) e _ words)

    pub script_agree : AgreeOnScript k l input
    unfolding listed_within script_words whole_list
    script_agree =
        record {
          listed = λ words. rw (end_whole input whole, end_whole input whole_more) (ap (outcome_map length) (same_script words));
          list_words = λ out. rw (end_whole input whole, end_whole input whole_more) (ap (laid_by (listed_words (rest_in input)) out) (same_script (length out)));
          whole = rw (end_whole input whole, end_whole input whole_more) (ap (λ o. counted_by (outcome_map length o)) (same_script (record_size * max_script)));
        }

    -- two images, one after the other
    module _ (g : HeadedWithin k (rest_in input)) where
      abbrev images : AgreeOnPair k l (image_in input) (rest_in input)
      images = pair_agree (image_in input) (rest_in input) h g

      same_changes : (words more : ℕ) → answer_from_within k input words more ≡ answer_from_within l input words more
      same_changes words more = rw (end_whole input whole, end_whole input whole_more) (images.changes words more)

      -- the program's room is enough by either limit
      same_listed :
          refusal_within k (image_in input) ≡ none → refusal_within k (rest_in input) ≡ none → l ≤ max_entries
          → listed_of (image_in input) (rest_in input) max_run_words (max_entry_words_within k) ≡ listed_of (image_in input) (rest_in input) max_run_words (max_entry_words_within l)
      same_listed a b few =
          let o = same_refusal k max_entries (image_in input) (omega arith) h in
          let n = same_refusal k max_entries (rest_in input) (omega arith) g in
          let r = runs_by_limits (image_in input) (rest_in input) (sym o ∙ a) (sym n ∙ b) in
          let m = entries_by_records (image_in input) (rest_in input) (sym o ∙ a) (sym n ∙ b) in
          lists_both (image_in input) (rest_in input) max_run_words (max_entry_words_within k) (omega arith) (omega (arith, h.few_entries, g.few_entries))
          ∙ sym (lists_both (image_in input) (rest_in input) max_run_words (max_entry_words_within l) (omega arith) (omega (arith, h.few_entries, g.few_entries)))

      abbrev changed : Option Refusal → Option Refusal → ℕ → Result Lists PairRefusal
      changed o p entries = changes_by (judged_by o p) (listed_of (image_in input) (rest_in input) max_run_words entries)

      room_by :
          l ≤ max_entries → (o p : Option Refusal) → refusal_within k (image_in input) ≡ o → refusal_within k (rest_in input) ≡ p
          → changed o p (max_entry_words_within k) ≡ changed o p (max_entry_words_within l)
      room_by few (some r) p a b = refl
      room_by few none (some r) a b = refl
      room_by few none none a b = same_listed a b few

      same_room :
          l ≤ max_entries
          → answer_within k (image_in input) (rest_in input) max_run_words (max_entry_words_within k) ≡ answer_within k (image_in input) (rest_in input) max_run_words (max_entry_words_within l)
      same_room few =
          answer_by k (image_in input) (rest_in input) _ _ refl refl max_run_words (max_entry_words_within k)
          ∙ room_by few _ _ refl refl
          ∙ sym (answer_by k (image_in input) (rest_in input) _ _ refl refl max_run_words (max_entry_words_within l))

      pub changes_agree : l ≤ max_entries → AgreeOnChanges k l input
      unfolding whole_changes
      changes_agree few =
          record {
            changes = same_changes;
            runs = λ out more. rw (end_whole input whole, end_whole input whole_more) (images.runs out more);
            entries = λ out more. rw (end_whole input whole, end_whole input whole_more) (images.entries out more);
            whole = rw (end_whole input whole, end_whole input whole_more) (same_room few ∙ images.changes max_run_words (max_entry_words_within l));
          }
