-- Writing the list of hashtags: each answer, exactly when, and what the buffer then holds. Assumes nothing.
use Prim.Native.Nat.{ℕ, ◌≤◌}
use mathlib.Core.Path.{◌≡◌, refl, ap, subst, ◌∙◌}
use mathlib.Core.Bool.{Bool, true, false}
use mathlib.Core.List.{List, []}
use mathlib.Core.Option.{Option, none, some}
use lib.ListN.{length}
use lib.Dec.{ltb}
use borrow.Author.Tests.{ltb-true, ltb-false}
use Rattle.std.specs.Prelude.{Ok}
use Rattle.lists.specs.Laid.{laid}
use Rattle.refusal.specs.declared.Refusal.{Refusal}
use Rattle.refusal.specs.declared.Refusal.TheVariants as refusal
use Rattle.refusal.specs.Outcome.{Outcome, given, refused, unless, refused_if, outcome_map}
use Rattle.utf8.specs.Text.{Character, Encoded, TextMeans, well_formed, ill_formed as bad_form, decode, text_of, Form, ill}
use Rattle.utf8.proofs.TextLaws.{means_decode, text_means, means_text}
use Rattle.image.specs.Accepted.{Accepted}
use Rattle.grammar.specs.Record.{room_of}
use Rattle.grammar.specs.Before.{max_text, before_text, BeforeMeans, allowed}
use Rattle.grammar.specs.Reading.{form_refusal_by, roomed, laid_by}
use Rattle.grammar.proofs.BeforeLaws.{before_means, means_before}
use Rattle.grammar.proofs.AnswerLaws.{counts_given, counts_refused, roomed_in, roomed_out, roomed_given}
use Rattle.hashtag.specs.Find.{Span, hashtags_of, AllHashtags}
use Rattle.hashtag.specs.Listed.{spans_words, hashtags_through, found_within, hashtags_found, hashtags_written_within, hashtag_list_within, hashtag_list_of, hashtag_words_within, hashtag_list_words}
use Rattle.hashtag.specs.Means.{Tagged, Refuses, refused_before, ill_formed, HashtagListMeans, lists, no_room, list_refuses}
use Rattle.hashtag.proofs.AllLaws.{hashtags_all, all_hashtags}

module _ (s text : List ℕ) where
  -- the hashtags of the text, or a refusal, before the room is looked at
  data FoundMeans : Outcome (List Span) → Type 0 where
    tags : {ts : List Span} → Tagged s text ts → FoundMeans (given ts)
    refuses : {r : Refusal} → Refuses s text r → FoundMeans (refused r)

  characters_are : {cs : List Character} → Encoded text cs [] → (decode text).characters ≡ cs
  characters_are e = ap (λ d. d.characters) (means_decode e)

  form_means : Accepted s → length text ≤ max_text → (t : Form) → TextMeans text t → FoundMeans (unless (form_refusal_by t) (given (hashtags_of s text)))
  form_means a l t (well_formed {cs} e) =
      tags (record { image = a; short = l; characters = cs; well_formed = e; hashtags = subst (λ cs. AllHashtags s cs (hashtags_of s text)) (characters_are e) (hashtags_all s text) })
  form_means a l t (bad_form e h p m) = refuses (ill_formed (allowed a l) (bad_form e h p m))

  own_means : FoundMeans (hashtags_found s text)
  unfolding found_within hashtags_through
  own_means = go (before_text max_text s text) (before_means max_text s text)
    where
      go : (o : Option Refusal) → BeforeMeans max_text s text o → FoundMeans (unless o (hashtags_through s text))
      go (some r) m = refuses (refused_before m)
      go none (allowed a l) = form_means a l (text_of text) (text_means text (text_of text) refl)

  tagged_is : {ts : List Span} → Tagged s text ts → hashtags_of s text ≡ ts
  tagged_is {ts} d = all_hashtags s text ts (rw (characters_are d.well_formed) d.hashtags)

  means_found : (o : Outcome (List Span)) → FoundMeans o → hashtags_found s text ≡ o
  unfolding found_within hashtags_through
  means_found o (tags d) =
      rw (means_before max_text s text (allowed d.image d.short), means_text text (Ok tt) (well_formed d.well_formed)) (ap given (tagged_is d))
  means_found o (refuses (refused_before m)) = rw (means_before max_text s text m)
  means_found o (refuses (ill_formed {p} {n} b m)) = rw (means_before max_text s text b, means_text text (ill p n) m)

  -- writing the list into a buffer of so many words
  module _ (words : ℕ) where
    pub hashtag_list_means : (a : Outcome ℕ) → hashtag_list_of s text words ≡ a → HashtagListMeans s text words a
    unfolding hashtag_list_within hashtags_written_within
    hashtag_list_means a e = subst (HashtagListMeans s text words) e (go (hashtags_found s text) own_means)
      where
        by_room : {ts : List Span} → Tagged s text ts → (b : Bool) → ltb (room_of words) (length ts) ≡ b →
            HashtagListMeans s text words (outcome_map length (unless (refused_if b (refusal.Room (length ts))) (given ts)))
        by_room d true f = no_room d refl (ltb-true _ _ f)
        by_room d false f = lists d refl (ltb-false _ _ f)

        go : (o : Outcome (List Span)) → FoundMeans o → HashtagListMeans s text words (outcome_map length (roomed words o))
        go o (tags d) = by_room d _ refl
        go o (refuses r) = list_refuses r

    pub means_hashtag_list : (a : Outcome ℕ) → HashtagListMeans s text words a → hashtag_list_of s text words ≡ a
    unfolding hashtag_list_within hashtags_written_within
    means_hashtag_list a (lists {ts = ts} d n h) =
        ap (λ o. outcome_map length (roomed words o)) (means_found _ (tags d)) ∙ ap (outcome_map length) (roomed_in words ts (rw n h)) ∙ ap given n
    means_hashtag_list a (no_room {ts = ts} d n h) =
        ap (λ o. outcome_map length (roomed words o)) (means_found _ (tags d)) ∙ ap (outcome_map length) (roomed_out words ts (rw n h)) ∙ ap (λ (k : ℕ). refused (refusal.Room k)) n
    means_hashtag_list a (list_refuses r) = ap (λ o. outcome_map length (roomed words o)) (means_found _ (refuses r))

  -- what the buffer then holds: the words of the hashtags in its front, and past them what it held
  pub hashtag_list_written : (out : List ℕ) (n : ℕ) → hashtag_list_of s text (length out) ≡ given n →
      (ts : List Span) × Tagged s text ts × (length ts ≡ n) × (hashtag_list_words s text out ≡ laid out 0 (spans_words text ts))
  unfolding hashtag_list_within hashtag_words_within hashtags_written_within
  hashtag_list_written out n e =
      let (ts, g, l) = counts_given (roomed (length out) (hashtags_found s text)) n e in
      go (subst FoundMeans (roomed_given (length out) (hashtags_found s text) ts g).0 own_means) l (ap (laid_by (spans_words text) out) g)
    where
      go : {ts : List Span} → FoundMeans (given ts) → length ts ≡ n → hashtag_list_words s text out ≡ laid out 0 (spans_words text ts) →
          (us : List Span) × Tagged s text us × (length us ≡ n) × (hashtag_list_words s text out ≡ laid out 0 (spans_words text us))
      go (tags d) l w = (_, d, l, w)

  -- "a refused call leaves every word that was lent as it was"
  pub hashtag_list_kept : (out : List ℕ) (r : Refusal) → hashtag_list_of s text (length out) ≡ refused r → hashtag_list_words s text out ≡ out
  unfolding hashtag_list_within hashtag_words_within hashtags_written_within
  hashtag_list_kept out r e = ap (laid_by (spans_words text) out) (counts_refused (roomed (length out) (hashtags_found s text)) r e)
