-- A reader refuses an image that has more profile entries than it allows, and that another reader accepts, in every call. Assumes nothing.
use Prim.Native.Nat.{ℕ, ◌*◌, ◌≤◌, ◌<◌}
use mathlib.Core.Path.{◌≡◌, refl, sym, ap, subst, ◌∙◌}
use mathlib.Core.List.{List}
use mathlib.Core.Option.{none, some}
use native.Mathlib.Omega.{arith}
use native.Mathlib.Decide.{dec_le, dec_lt}
use lib.ListN.{length}
use borrow.Author.Tests.{lt-ltb, le-ltb}
use Rattle.std.specs.Prelude.{Result, Err}
use Rattle.refusal.specs.declared.Refusal.{Refusal}
use Rattle.refusal.specs.declared.Refusal.TheVariants as refusal
use Rattle.refusal.specs.Outcome.{refused, outcome_map}
use Rattle.image.specs.Limits.{largest_within}
use Rattle.image.specs.Header.{total_of, entry_count}
use Rattle.image.specs.Accepted.{AcceptedWithin}
use Rattle.image.specs.Check.{refusal_within}
use Rattle.image.proofs.ImageLaws.{accepted}
use Rattle.image.proofs.LimitLaws.{long_refused, many_refused, check_refused, read_refused, words_kept}
use Rattle.lookup.proofs.LimitLaws.{lookup_by_lem}
use Rattle.pair.proofs.LimitLaws.{pair_by_lem}
use Rattle.pair.specs.declared.PairRefusal.{PairRefusal}
use Rattle.pair.specs.declared.PairRefusal.TheVariants.{Older, Newer}
use Rattle.changes.specs.declared.Lists.{Lists}
use Rattle.changes.proofs.LimitLaws.{answer_by, runs_are, entries_are}
use Rattle.input.specs.Front.{image_in, rest_in, front_within, after_within, WholeWithin}
use Rattle.input.proofs.FrontLaws.{dec_whole, end_whole, cut_refused, image_total, sized_whole}
use Rattle.grammar.specs.Record.{record_size, listed_words}
use Rattle.grammar.specs.Before.{before_within}
use Rattle.grammar.specs.Reading.{outcome_within, count_within, roomed, written_within, list_within, laid_by, list_words_within}
use Rattle.token.specs.Taken.{taken_within}
use Rattle.hashtag.specs.Listed.{spans_words, found_within, hashtags_written_within, hashtag_list_within, hashtag_words_within}
use Rattle.grammar.specs.Counted.{counted_by}
use Rattle.input.specs.Script.{max_script, script_within, written_from_within, listed_within, script_words_within as script_words, whole_answer_within as whole_list}
use Rattle.input.specs.Images.{max_run_words, max_entry_words_within, whole_answer_within as whole_changes}
use Rattle.limit.specs.Former.{refusal_above}
use Rattle.limit.specs.Refuses.{RefusesChanges, RefusesScript, RefusesInput, RefusesImage}

-- which of 1 and 2
module _ (limit : ℕ) (s : List ℕ) where
  pub above_long : largest_within limit < length s → refusal_above limit s ≡ refusal.Length
  unfolding refusal_above
  above_long h = simp (lt-ltb _ _ h)

  pub above_short : length s ≤ largest_within limit → refusal_above limit s ≡ refusal.Header
  unfolding refusal_above
  above_short h = simp (le-ltb _ _ h)

  -- the image is refused with it
  pub above : (l : ℕ) → AcceptedWithin l s → limit < entry_count s → refusal_within limit s ≡ some (refusal_above limit s)
  above l a many = go (dec_lt (largest_within limit) (length s))
    where
      go : Dec (largest_within limit < length s) → refusal_within limit s ≡ some (refusal_above limit s)
      go (yes h) = long_refused limit s h ∙ ap some (sym (above_long h))
      go (no h) = many_refused limit l s a (omega arith) many ∙ ap some (sym (above_short (omega arith)))

-- the calls on an image that is refused
module _ (limit : ℕ) (s : List ℕ) (r : Refusal) (e : refusal_within limit s ≡ some r) where
  outcome_refused : (text : List ℕ) → outcome_within limit s text ≡ refused r
  unfolding outcome_within before_within
  outcome_refused text = rw e

  written_refused : (text : List ℕ) (words : ℕ) → written_within limit s text words ≡ refused r
  unfolding written_within
  written_refused text words = ap (roomed words) (outcome_refused text)

  found_refused : (text : List ℕ) (words : ℕ) → hashtags_written_within limit s text words ≡ refused r
  unfolding hashtags_written_within found_within before_within
  found_refused text words = rw e

  older_refused : (newer : List ℕ) → RefusesChanges limit s newer (Err (Older r))
  older_refused newer =
      record {
        answer = answer_by limit s newer (some r) _ e refl;
        runs = runs_are limit s newer (some r) _ e refl;
        entries = entries_are limit s newer (some r) _ e refl;
      }

  newer_refused : (older : List ℕ) → refusal_within limit older ≡ none → RefusesChanges limit older s (Err (Newer r))
  newer_refused older a =
      record {
        answer = answer_by limit older s none (some r) a e;
        runs = runs_are limit older s none (some r) a e;
        entries = entries_are limit older s none (some r) a e;
      }

-- an image at the front of an input: where it comes whole it is refused, and where it doesn't, it is longer than the largest
module _ (limit l : ℕ) (input : List ℕ) (a : AcceptedWithin l (image_in input)) (many : limit < entry_count (image_in input)) where
  cut_long : (WholeWithin limit input → ⊥) → refusal_above limit (image_in input) ≡ refusal.Length
  cut_long f = go (dec_le (total_of input) (largest_within limit))
    where
      go : Dec (total_of input ≤ largest_within limit) → refusal_above limit (image_in input) ≡ refusal.Length
      go (yes h) = let w = sized_whole {limit = l} input a.header.sized in absurd (f (record { header = w.header; long = w.long; short = h; comes = w.comes }))
      go (no h) = above_long limit (image_in input) (omega (arith, image_total {limit = l} input a.header.sized))

  front_refused : refusal_within limit (front_within limit input) ≡ some (refusal_above limit (image_in input))
  front_refused = go (dec_whole input)
    where
      go : Dec (WholeWithin limit input) → refusal_within limit (front_within limit input) ≡ some (refusal_above limit (image_in input))
      go (yes w) = rw (end_whole input w) (above limit (image_in input) l a many)
      go (no f) = cut_refused input f ∙ ap some (sym (cut_long f))

  script_refused_lem : (words : ℕ) → written_from_within limit input words ≡ refused (refusal_above limit (image_in input))
  unfolding script_within before_within
  script_refused_lem words = rw front_refused

-- the listers' calls and programs, from what is written and from the list of changes
script_refuses : (limit : ℕ) (input : List ℕ) (r : Refusal) → ((words : ℕ) → written_from_within limit input words ≡ refused r) → RefusesScript limit input r
unfolding listed_within script_words whole_list
script_refuses limit input r f =
    record {
      listed = λ words. ap (outcome_map length) (f words);
      list_words = λ out. ap (laid_by (listed_words (after_within limit input)) out) (f (length out));
      whole = ap (λ o. counted_by (outcome_map length o)) (f (record_size * max_script));
    }

input_refuses : (limit : ℕ) (input : List ℕ) (c : Result Lists PairRefusal) → RefusesChanges limit (front_within limit input) (after_within limit input) c → RefusesInput limit input c
unfolding whole_changes
input_refuses limit input c h =
    record { answer = h.answer; runs = h.runs; entries = h.entries; whole = h.answer max_run_words (max_entry_words_within limit) }

-- so every call
pub refuses_above : (limit l : ℕ) (s : List ℕ) → AcceptedWithin l s → limit < entry_count s → RefusesImage limit s (refusal_above limit s)
unfolding count_within list_within list_words_within taken_within before_within hashtag_list_within hashtag_words_within
refuses_above limit l s a many =
    let e = above limit s l a many in
    let r = refusal_above limit s in
    record {
      checked = check_refused limit s r e;
      read = read_refused limit s r e;
      read_words = words_kept limit s r e;
      looked_up = λ x. lookup_by_lem limit s x (some r) e;
      counted = λ text. ap (outcome_map length) (outcome_refused limit s r e text);
      listed = λ text words. ap (outcome_map length) (written_refused limit s r e text words);
      list_words = λ text out. ap (laid_by (listed_words text) out) (written_refused limit s r e text (length out));
      taken = λ text place. rw e;
      hashtags = λ text words. ap (outcome_map length) (found_refused limit s r e text words);
      hashtag_words = λ text out. ap (laid_by (spans_words text) out) (found_refused limit s r e text (length out));
      compared_older = λ newer. pair_by_lem limit s newer (some r) _ e refl;
      compared_newer = λ older o. pair_by_lem limit older s none (some r) o e;
      changes_older = older_refused limit s r e;
      changes_newer = newer_refused limit s r e;
      script_refused = λ input f. script_refuses limit input r (at_front input f);
      input_older = λ input f. input_refuses limit input _ (changes_front input f);
      input_newer = changes_after;
    }
  where
    at_front : (input : List ℕ) → image_in input ≡ s → (words : ℕ) → written_from_within limit input words ≡ refused (refusal_above limit s)
    at_front input f words =
        script_refused_lem limit l input (subst (AcceptedWithin l) (sym f) a) (subst (λ t. limit < entry_count t) (sym f) many) words
        ∙ ap (λ t. refused (refusal_above limit t)) f

    changes_front : (input : List ℕ) → image_in input ≡ s → RefusesChanges limit (front_within limit input) (after_within limit input) (Err (Older (refusal_above limit s)))
    changes_front input f =
        older_refused limit (front_within limit input) (refusal_above limit s)
        (front_refused limit l input (subst (AcceptedWithin l) (sym f) a) (subst (λ t. limit < entry_count t) (sym f) many)
        ∙ ap (λ t. some (refusal_above limit t)) f)
        (after_within limit input)

    changes_after : (input : List ℕ) → refusal_within limit (image_in input) ≡ none → rest_in input ≡ s → RefusesInput limit input (Err (Newer (refusal_above limit s)))
    changes_after input o f =
        let w = sized_whole {limit = limit} input (accepted (image_in input) o).header.sized in
        let e = ap (λ t. refusal_within limit t) f ∙ above limit s l a many in
        input_refuses limit input _ (rw (end_whole input w) (newer_refused limit (rest_in input) (refusal_above limit s) e (image_in input) o))
