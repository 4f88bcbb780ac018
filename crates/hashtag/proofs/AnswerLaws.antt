-- The answers of writing the list of hashtags, from what is judged before the text and the count under it. Assumes nothing.
use Prim.Native.Nat.{ℕ, ◌*◌, ◌≤◌, ◌<◌}
use mathlib.Core.Path.{◌≡◌, refl, ◌∙◌}
use mathlib.Core.List.{List}
use mathlib.Core.Option.{none, some}
use native.Mathlib.Omega.{arith}
use lib.ListN.{length}
use Rattle.std.specs.Prelude.{Result, Ok, Err}
use Rattle.lists.specs.Laid.{laid}
use Rattle.lists.proofs.BoolLaws.{impossible}
use Rattle.refusal.specs.declared.Refusal.{Refusal}
use Rattle.refusal.specs.declared.Refusal.TheVariants as refusal
use Rattle.refusal.specs.Outcome.{given, refused, unless, outcome_map}
use Rattle.utf8.specs.Text.{text_of, Form}
use Rattle.grammar.specs.Record.{record_size, room_of}
use Rattle.grammar.specs.Before.{max_text, before_text}
use Rattle.grammar.specs.Reading.{form_refusal_by}
use Rattle.grammar.specs.Counted.{counted_by}
use Rattle.grammar.proofs.AnswerLaws.{by_refused, Writes, writes_refused, writes_no_room, writes_given}
use Rattle.hashtag.specs.Find.{hashtags_of}
use Rattle.hashtag.specs.Listed.{spans_words, hashtags_through, counted_through, found_within, hashtags_found, hashtags_written_within, hashtag_list_within, hashtag_list_of, hashtag_words_within, hashtag_list_words}

module _ (s text out : List ℕ) where
  abbrev pub ListsHashtags : Result ℕ Refusal → List ℕ → Type 0
  ListsHashtags r out' = (r ≡ counted_by (hashtag_list_of s text (length out))) × (out' ≡ hashtag_list_words s text out)

  lists : {r : Result ℕ Refusal} {out' : List ℕ} → Writes (spans_words text) out (hashtags_found s text) r out' → ListsHashtags r out'
  unfolding hashtag_list_within hashtag_words_within hashtags_written_within
  lists w = w

  pub list_refused : {r : Refusal} → before_text max_text s text ≡ some r → ListsHashtags (Err r) out
  unfolding found_within
  list_refused {r} e = lists (writes_refused (spans_words text) out (let f : hashtags_found s text ≡ refused r = rw e in f))

  module _ (read : before_text max_text s text ≡ none) where
    through : hashtags_found s text ≡ hashtags_through s text
    unfolding found_within
    through = rw read

    -- 6
    pub list_ill : {r : Refusal} → Err r ≡ counted_through s text → ListsHashtags (Err r) out
    unfolding counted_through
    list_ill e = lists (writes_refused (spans_words text) out (through ∙ by_refused (hashtags_through s text) e))

    module _ {n : ℕ} (e : Ok n ≡ counted_through s text) where
      record All : Type 0 where
        form : text_of text ≡ Ok tt
        number : n ≡ length (hashtags_of s text)
        found : hashtags_found s text ≡ given (hashtags_of s text)

      all : All
      unfolding counted_through hashtags_through
      all = go (text_of text) refl e
        where
          go : (t : Form) → text_of text ≡ t → Ok n ≡ counted_by (outcome_map length (unless (form_refusal_by t) (given (hashtags_of s text)))) → All
          go (Ok u) f g = record { form = f; number = cc; found = through ∙ rw f }
          go (Err i) f g = impossible (cc)

      -- 8: nothing is written
      pub list_no_room : room_of (length out) < n → ListsHashtags (Err (refusal.Room n)) out
      list_no_room h = lists (writes_no_room (spans_words text) out all.found all.number h)

      module _ (h : n ≤ room_of (length out)) where
        pub list_fits : (text_of text ≡ Ok tt) × (record_size * length (hashtags_of s text) ≤ length out)
        list_fits = let m = all.number in (all.form, omega arith)

        -- all is written
        pub list_given : ListsHashtags (Ok n) (laid out 0 (spans_words text (hashtags_of s text)))
        list_given = lists (writes_given (spans_words text) out all.found all.number h)
