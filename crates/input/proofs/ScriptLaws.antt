-- What the token lister lists of its input, what each answer means, exactly when, and that 8 is never its answer. Assumes nothing.
use Prim.Native.Nat.{ℕ, ◌+◌, ◌*◌, ◌≤◌, ◌<◌}
use mathlib.Core.Path.{◌≡◌, refl, sym, ap, ◌∙◌}
use mathlib.Core.List.{List}
use mathlib.Core.Option.{Option, none, some}
use native.Mathlib.Omega.{arith}
use lib.ListN.{length, take}
use Rattle.std.specs.Prelude.{Result, Ok, Err}
use Rattle.lists.proofs.BoolLaws.{impossible}
use Rattle.refusal.specs.declared.Refusal.{Refusal}
use Rattle.refusal.specs.declared.Refusal.TheVariants as refusal
use Rattle.refusal.specs.Outcome.{Outcome, given, refused, outcome_map}
use Rattle.utf8.specs.Text.{Character}
use Rattle.image.specs.Limits.{max_image}
use Rattle.image.specs.Check.{refusal_of}
use Rattle.image.proofs.ImageLaws.{refusal_means, means_refusal, refusal_number, accepted}
use Rattle.grammar.specs.Scan.{Tok}
use Rattle.grammar.specs.Grammar.{Kind}
use Rattle.grammar.specs.Record.{record_size, room_of, listed_words}
use Rattle.grammar.specs.Before.{before_text, BeforeMeans, of_image, too_long, allowed}
use Rattle.grammar.specs.Reading.{outcome_of, written_within, written_of, laid_by, list_within, list_of, list_words_within, list_words}
use Rattle.grammar.proofs.BeforeLaws.{before_means, means_before}
use Rattle.grammar.proofs.AnswerLaws.{roomed_given}
use Rattle.grammar.proofs.FewLaws.{outcome_no_room, written_all}
use Rattle.grammar.specs.Counted.{counted_by}
use Rattle.input.specs.Front.{image_in, rest_in as text_in, front_in, after_in, ComesWhole}
use Rattle.input.proofs.FrontLaws.{dec_whole, end_whole, cut_refused, looks_no_further}
use Rattle.input.specs.Script.{max_script, script_within, script_written, written_from, listed_within, listed_from, script_words_within, script_words, whole_answer_within, whole_answer, ScriptMeans, refused_before, short_text, ListingMeans, cut_off, not_listed, listed}

abbrev TokenList : Type 0
TokenList = List (Tok Character Kind)

-- what is written, by what is judged before
module _ (image text : List ℕ) (words : ℕ) where
  pub script_refused_lem : {r : Refusal} → before_text max_script image text ≡ some r → script_written image text words ≡ refused r
  unfolding script_within
  script_refused_lem e = rw e

  pub script_listed : before_text max_script image text ≡ none → script_written image text words ≡ written_of image text words
  unfolding script_within
  script_listed e = rw e

-- an answer and a buffer that an outcome gives for a text
abbrev pub Gives : List ℕ → Outcome TokenList → Result ℕ Refusal → List ℕ → List ℕ → Type 0
Gives text o r out out' = (r ≡ counted_by (outcome_map length o)) × (out' ≡ laid_by (listed_words text) out o)

pub gives_refused :
    {o : Outcome TokenList} {r : Refusal} (text out : List ℕ) → o ≡ refused r → Gives text o (Err r) out out
gives_refused text out e = rw e (refl, refl)

pub gives_listed :
    (image text out : List ℕ) {o : Outcome TokenList} {r : Result ℕ Refusal} {out' : List ℕ} → o ≡ written_of image text (length out)
    → (r ≡ counted_by (list_of image text (length out))) × (out' ≡ list_words image text out) → Gives text o r out out'
unfolding list_within list_words_within
gives_listed image text out e p = rw e p

-- what the outcome says
module _ (image text : List ℕ) (words : ℕ) where
  pub means_script : {o : Outcome TokenList} → ScriptMeans image text words o → script_written image text words ≡ o
  means_script (refused_before m) = script_refused_lem image text words (means_before max_script image text m)
  means_script (short_text b e) = script_listed image text words (means_before max_script image text b) ∙ e

  pub script_means : {o : Outcome TokenList} → script_written image text words ≡ o → ScriptMeans image text words o
  script_means {o} e = go (before_text max_script image text) refl (before_means max_script image text)
    where
      go : (b : Option Refusal) → before_text max_script image text ≡ b → BeforeMeans max_script image text b → ScriptMeans image text words o
      go none f m = short_text m (sym (script_listed image text words f) ∙ e)
      go (some r) f m = rw (sym e ∙ script_refused_lem image text words f) (refused_before m)

  -- tokens that were written have room; and there is room where there is some for a token at every byte of the longest text
  script_fits : {ts : TokenList} → ScriptMeans image text words (given ts) → length ts ≤ room_of words
  unfolding written_within
  script_fits {ts} (short_text b e) = (roomed_given words (outcome_of image text) ts e).1

  script_room : {n : ℕ} → max_script ≤ room_of words → ScriptMeans image text words (refused (refusal.Room n)) → ⊥
  script_room {n} enough (refused_before (of_image m)) = omega (arith, refusal_number image (refusal.Room n) (means_refusal image _ m))
  script_room {n} enough (short_text (allowed a h) e) = outcome_no_room image text n (sym (written_all image text words (omega arith)) ∙ e)

-- what an answer says, and the words
module _ (input out : List ℕ) where
  cut_before : (ComesWhole input → ⊥) → before_text max_script (front_in input) (after_in input) ≡ some refusal.Length
  cut_before f = means_before max_script _ _ (of_image (refusal_means _ _ (cut_refused input f)))

  pub means_listing :
      {o : Outcome ℕ} {words : List ℕ} → ListingMeans input out o words
      → (listed_from input (length out) ≡ o) × (script_words input out ≡ words)
  unfolding listed_within script_words_within
  means_listing (cut_off f) = rw (script_refused_lem _ _ _ (cut_before f)) (refl, refl)
  means_listing (not_listed w m) = rw (end_whole input w, means_script _ _ _ m) (refl, refl)
  means_listing (listed w m) = rw (end_whole input w, means_script _ _ _ m) (refl, refl)

  pub listing_means :
      {o : Outcome ℕ} {words : List ℕ} → listed_from input (length out) ≡ o → script_words input out ≡ words
      → ListingMeans input out o words
  unfolding listed_within script_words_within
  listing_means e f = rw (← e, ← f) (go (dec_whole input))
    where
      Means : List ℕ → Outcome TokenList → Type 0
      Means text o = ListingMeans input out (outcome_map length o) (laid_by (listed_words text) out o)

      by_script :
          ComesWhole input → (o : Outcome TokenList) → ScriptMeans (image_in input) (text_in input) (length out) o → Means (text_in input) o
      by_script w (given ts) m = listed w m
      by_script w (refused r) m = not_listed w m

      go : Dec (ComesWhole input) → Means (after_in input) (written_from input (length out))
      go (yes w) = rw (end_whole input w) (by_script w _ (script_means _ _ _ refl))
      go (no f) = rw (script_refused_lem _ _ _ (cut_before f)) (cut_off f)

-- tokens that were listed have room
pub listing_fits : (input : List ℕ) (words n : ℕ) → Ok n ≡ counted_by (listed_from input words) → n ≤ room_of words
unfolding listed_within
listing_fits input words n e = go (written_from input words) refl e
  where
    go : (o : Outcome TokenList) → written_from input words ≡ o → Ok n ≡ counted_by (outcome_map length o) → n ≤ room_of words
    go (refused r) f t = impossible (cc)
    go (given ts) f t = let l : n ≡ length ts = cc in omega (arith, script_fits _ _ words (script_means _ _ words f))

-- the program's words are room for the longest text's tokens, so it never answers 8
abbrev room : ℕ
room = record_size * max_script

pub never_room : (input : List ℕ) (n : ℕ) → whole_answer input ≡ Err (refusal.Room n) → ⊥
unfolding whole_answer_within listed_within
never_room input n e = go (written_from input room) refl e
  where
    go : (o : Outcome TokenList) → written_from input room ≡ o → counted_by (outcome_map length o) ≡ Err (refusal.Room n) → ⊥
    go (given ts) f t = impossible (cc)
    go (refused r) f t =
        let e : r ≡ refusal.Room n = cc in
        script_room _ _ room (omega arith) (script_means _ _ room (f ∙ ap refused e))

-- its answer is that of the whole input, of which it reads the largest image, the longest text and one byte
pub whole_answer_lem :
    (input : List ℕ) (k : ℕ) → max_image + max_script < k → (read : List ℕ) → take k input ≡ read → (words : ℕ) → words ≡ room
    → counted_by (listed_from read words) ≡ whole_answer input
unfolding whole_answer_within listed_within
whole_answer_lem input k h read e words w =
    rw w
    (ap (λ o. counted_by (outcome_map length o))
    (looks_no_further (λ image text. script_written image text room) max_script same_long input k h read e))
  where
    same_long :
        (image s t : List ℕ) → max_script < length s → max_script < length t → script_written image s room ≡ script_written image t room
    same_long image s t h k = go (refusal_of image) refl
      where
        before : {text : List ℕ} {r : Refusal} → BeforeMeans max_script image text (some r) → script_written image text room ≡ refused r
        before {text} m = script_refused_lem image text room (means_before max_script image text m)

        go : (o : Option Refusal) → refusal_of image ≡ o → script_written image s room ≡ script_written image t room
        go none e = before (too_long (accepted image e) h) ∙ sym (before (too_long (accepted image e) k))
        go (some r) e = let m = refusal_means image (some r) e in before (of_image m) ∙ sym (before (of_image m))
