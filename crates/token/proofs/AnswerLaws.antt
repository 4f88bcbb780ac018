-- The answers of counting and of writing the list, from what is judged before the text and the count under it. Assumes nothing.
use Prim.Native.Nat.{ℕ, ◌*◌, ◌≤◌, ◌<◌}
use mathlib.Core.Path.{◌≡◌, sym, ap, ◌∙◌}
use mathlib.Core.List.{List, [], ◌∷◌}
use mathlib.Core.Option.{Option, none, some}
use native.Mathlib.Omega.{arith}
use lib.ListN.{length}
use Rattle.std.specs.Prelude.{Result, Ok, Err}
use Rattle.lists.specs.Laid.{laid}
use Rattle.refusal.specs.declared.Refusal.{Refusal}
use Rattle.refusal.specs.declared.Refusal.TheVariants as refusal
use Rattle.utf8.specs.Text.{Character}
use Rattle.image.specs.Check.{refusal_of}
use Rattle.grammar.specs.Scan.{Tok}
use Rattle.grammar.specs.Grammar.{Kind}
use Rattle.refusal.specs.Outcome.{given, refused, unless, outcome_map}
use Rattle.grammar.specs.Record.{record_size, room_of, listed_words}
use Rattle.grammar.specs.Before.{max_text, before_text, allowed}
use Rattle.grammar.specs.Reading.{reading_of, tokens_of, form_refusal, mark_refusal, judged, read_through, outcome_within, outcome_of, count_within, count_of, written_within, list_within, list_of, list_words_within, list_words}
use Rattle.image.proofs.ImageLaws.{accepted as is_accepted}
use Rattle.grammar.proofs.BeforeLaws.{means_before}
use Rattle.grammar.proofs.AnswerLaws.{by_refused, by_count, Writes, writes_refused, writes_no_room, writes_given}
use Rattle.grammar.specs.Counted.{counted_by, count_through}

-- what has room as records has it as words
pub room_words : (n words : ℕ) → n ≤ room_of words → record_size * n ≤ words
room_words n words h = omega arith

-- what is given are the tokens of the reading
given_by : (s : List ℕ) (o : Option Refusal) (ts us : List (Tok Character Kind)) (l : List Character) → unless o (judged s ts l) ≡ given us → us ≡ ts
given_by s none ts us [] e = go (mark_refusal s ts) e
  where
    go : (o : Option Refusal) → unless o (given ts) ≡ given us → us ≡ ts
    go none e = cc
    go (some r) e = cc
given_by s none ts us (c ∷ l) e = cc
given_by s (some r) ts us l e = cc

module _ (s text : List ℕ) where
  outcome_refused : {r : Refusal} → before_text max_text s text ≡ some r → outcome_of s text ≡ refused r
  unfolding outcome_within
  outcome_refused e = rw e

  pub count_refused : {r : Refusal} → before_text max_text s text ≡ some r → Err r ≡ counted_by (count_of s text)
  unfolding count_within
  count_refused e = sym (ap (λ o. counted_by (outcome_map length o)) (outcome_refused e))

  -- where nothing is refused before it, what is read
  outcome_through : before_text max_text s text ≡ none → outcome_of s text ≡ read_through s text
  unfolding outcome_within
  outcome_through e = rw e

  pub count_through_lem : before_text max_text s text ≡ none → count_through s text ≡ counted_by (count_of s text)
  unfolding count_within count_through
  count_through_lem e = ap (λ o. counted_by (outcome_map length o)) (sym (outcome_through e))

  -- writing the list
  module _ (out : List ℕ) where
    abbrev pub ListsTokens : Result ℕ Refusal → List ℕ → Type 0
    ListsTokens r out' = (r ≡ counted_by (list_of s text (length out))) × (out' ≡ list_words s text out)

    lists : {r : Result ℕ Refusal} {out' : List ℕ} → Writes (listed_words text) out (outcome_of s text) r out' → ListsTokens r out'
    unfolding list_within list_words_within written_within
    lists w = w

    pub list_refused : {r : Refusal} → before_text max_text s text ≡ some r → ListsTokens (Err r) out
    list_refused e = lists (writes_refused (listed_words text) out (outcome_refused e))

    -- .. from what the count gives
    module _ (accepted : refusal_of s ≡ none) (short : length text ≤ max_text) where
      through : outcome_of s text ≡ read_through s text
      through = outcome_through (means_before max_text s text (allowed (is_accepted s accepted) short))

      -- what refuses the count: nothing is written
      pub list_stopped : {r : Refusal} → Err r ≡ count_through s text → ListsTokens (Err r) out
      unfolding count_through
      list_stopped e = lists (writes_refused (listed_words text) out (through ∙ by_refused (read_through s text) e))

      module _ {n : ℕ} (e : Ok n ≡ count_through s text) where
        all : (outcome_of s text ≡ given (tokens_of s text)) × (n ≡ length (tokens_of s text))
        unfolding count_through read_through
        all =
            let (us, g, l) = by_count (read_through s text) e in
            let q = given_by s (form_refusal text) (tokens_of s text) us (reading_of s text).left g in
            (through ∙ g ∙ ap given q, l ∙ ap length q)

        -- 8
        pub list_no_room : room_of (length out) < n → ListsTokens (Err (refusal.Room n)) out
        list_no_room h = lists (writes_no_room (listed_words text) out all.0 all.1 h)

        pub list_given : n ≤ room_of (length out) → ListsTokens (Ok n) (laid out 0 (listed_words text (tokens_of s text)))
        list_given h = lists (writes_given (listed_words text) out all.0 all.1 h)
