-- Counting and writing the list: each answer, exactly when, and what the buffer then holds. Assumes nothing.
use Prim.Native.Nat.{ℕ, ◌≤◌}
use mathlib.Core.Path.{◌≡◌, refl, sym, ap, subst, ◌∙◌}
use mathlib.Core.Bool.{Bool, true, false}
use mathlib.Core.List.{List, [], ◌∷◌}
use mathlib.Core.Option.{Option, none, some, map}
use native.Mathlib.Omega.{arith}
use lib.ListN.{length}
use lib.Dec.{ltb}
use borrow.Author.Tests.{ltb-true, ltb-false}
use Rattle.std.specs.Prelude.{Ok}
use Rattle.lists.specs.Laid.{laid}
use Rattle.refusal.specs.declared.Refusal.{Refusal}
use Rattle.refusal.specs.declared.Refusal.TheVariants as refusal
use Rattle.refusal.specs.Refusal.{number_of}
use Rattle.refusal.specs.Outcome.{Outcome, given, refused, unless, refused_if, outcome_map}
use Rattle.utf8.specs.Text.{Character, TextMeans, well_formed, ill_formed as bad_form, text_of, Form, ill}
use Rattle.utf8.proofs.TextLaws.{text_means, means_text}
use Rattle.image.specs.Accepted.{Accepted}
use Rattle.image.specs.Means.{RefusalMeans}
use Rattle.image.proofs.ImageLaws.{means_refusal, refusal_number}
use Rattle.grammar.specs.Scan.{Tok}
use Rattle.grammar.specs.Grammar.{Kind}
use Rattle.grammar.specs.Second.{first_refused}
use Rattle.grammar.specs.Record.{room_of, listed_words}
use Rattle.grammar.specs.Before.{max_text, before_text, BeforeMeans, of_image, allowed}
use Rattle.grammar.specs.Reading.{meaning_of, reading_of, form_refusal_by, mark_refusal_by, mark_refusal, judged, read_through, outcome_within, outcome_of, count_within, count_of, roomed, written_within, list_within, list_of, laid_by, list_words_within, list_words}
use Rattle.grammar.proofs.BeforeLaws.{before_means, means_before}
use Rattle.grammar.proofs.AnswerLaws.{counts_given, counts_refused, roomed_in, roomed_out, roomed_given}
use Rattle.grammar.proofs.BesideLaws.{place_of}
use Rattle.demands.specs.Demand2.{Divided, Stopped, FirstMark, NoMark}
use Rattle.demands.specs.Means.{Refuses, refused_before, ill_formed, no_token, mark, CountMeans, counts, count_refuses, ListMeans, lists, no_room, list_refuses}
use Rattle.demands.proofs.DividedLaws.{reading_divides, divided_unique}
use Rattle.demands.proofs.MarkedLaws.{Marked, marks, marked_some, marked_none}

image_number : {s : List ℕ} {r : Refusal} → RefusalMeans s (some r) → number_of r ≤ 4
image_number {s} {r} m = refusal_number s r (means_refusal s (some r) m)

-- 7 and 14 come of the text alone
module _ {s text : List ℕ} where
  pub refuses_stopped : {p : ℕ} → Refuses s text (refusal.Characters p) → Stopped s text p
  refuses_stopped (refused_before (of_image m)) = absurd (omega (arith, image_number m))
  refuses_stopped (no_token t) = t

  pub refuses_marked : {p : ℕ} → Refuses s text (refusal.Mark p) → FirstMark s text p
  refuses_marked (refused_before (of_image m)) = absurd (omega (arith, image_number m))
  refuses_marked (mark f) = f

module _ (s text : List ℕ) where
  -- the tokens of the division, where no mark is refused, or a refusal, before the room is looked at
  pub data OutcomeMeans : Outcome (List (Tok Character Kind)) → Type 0 where
    divides : {ts : List (Tok Character Kind)} → Divided s text ts [] → NoMark s text → OutcomeMeans (given ts)
    refuses : {r : Refusal} → Refuses s text r → OutcomeMeans (refused r)

  judged_means : (ts : List (Tok Character Kind)) (left : List Character) → Divided s text ts left → OutcomeMeans (judged s ts left)
  unfolding mark_refusal
  judged_means ts [] d = go (first_refused (meaning_of s) [] ts) (marks d)
    where
      go : (o : Option (List (Tok Character Kind))) → Marked s text (place_of o) → OutcomeMeans (unless (mark_refusal_by o) (given ts))
      go none n = divides d n
      go (some before) f = refuses (mark f)
  judged_means ts (c ∷ r) d = refuses (no_token (record { tokens = ts; first = c; others = r; divided = d; place = refl }))

  form_means : Accepted s → length text ≤ max_text → (t : Form) → TextMeans text t → OutcomeMeans (unless (form_refusal_by t) (judged s (reading_of s text).tokens (reading_of s text).left))
  form_means a l t (well_formed e) = judged_means (reading_of s text).tokens (reading_of s text).left (reading_divides (record { image = a; short = l; well_formed = e }))
  form_means a l t (bad_form e h p m) = refuses (ill_formed (allowed a l) (bad_form e h p m))

  own_means : OutcomeMeans (outcome_of s text)
  unfolding outcome_within read_through
  own_means = go (before_text max_text s text) (before_means max_text s text)
    where
      go : (o : Option Refusal) → BeforeMeans max_text s text o → OutcomeMeans (unless o (read_through s text))
      go (some r) m = refuses (refused_before m)
      go none (allowed a l) = form_means a l (text_of text) (text_means text (text_of text) refl)

  pub outcome_means : (o : Outcome (List (Tok Character Kind))) → outcome_of s text ≡ o → OutcomeMeans o
  outcome_means o e = subst OutcomeMeans e own_means

  -- a text that is none of 1 to 6 is judged by its one division
  judged_by : {ts : List (Tok Character Kind)} {left : List Character} → Divided s text ts left → outcome_of s text ≡ judged s ts left
  unfolding outcome_within read_through
  judged_by d =
      let h = d.readable in
      let u = divided_unique (reading_divides h) d in
      rw (means_before max_text s text (allowed h.image h.short), means_text text (Ok tt) (well_formed h.well_formed)) (λ i. judged s (u.0 i) (u.1 i))

  -- one that has a division, by its first mark that is refused
  marked_by : {ts : List (Tok Character Kind)} (a : Option ℕ) → Divided s text ts [] → place_of (first_refused (meaning_of s) [] ts) ≡ a → outcome_of s text ≡ unless (map refusal.Mark a) (given ts)
  unfolding mark_refusal
  marked_by {ts} a d e = judged_by d ∙ ap (λ (o : Option Refusal). unless o (given ts)) (go (first_refused (meaning_of s) [] ts) ∙ ap (map refusal.Mark) e)
    where
      go : (o : Option (List (Tok Character Kind))) → mark_refusal_by o ≡ map refusal.Mark (place_of o)
      go none = refl
      go (some before) = refl

  pub means_outcome : (o : Outcome (List (Tok Character Kind))) → OutcomeMeans o → outcome_of s text ≡ o
  unfolding outcome_within read_through
  means_outcome o (divides d n) = marked_by none d (marked_none _ (marks d) n)
  means_outcome o (refuses (refused_before m)) = rw (means_before max_text s text m)
  means_outcome o (refuses (ill_formed {p} {n} b m)) = rw (means_before max_text s text b, means_text text (ill p n) m)
  means_outcome o (refuses (no_token t)) = judged_by t.divided ∙ ap (λ (p : ℕ). refused (refusal.Characters p)) (sym t.place)
  means_outcome o (refuses (mark {p} f)) = let d = f.mark.divided in marked_by (some p) d (marked_some _ (marks d) f)

  -- counting
  pub count_means : (a : Outcome ℕ) → count_of s text ≡ a → CountMeans s text a
  unfolding count_within
  count_means a e = subst (CountMeans s text) e (go (outcome_of s text) own_means)
    where
      go : (o : Outcome (List (Tok Character Kind))) → OutcomeMeans o → CountMeans s text (outcome_map length o)
      go o (divides d n) = counts d n refl
      go o (refuses r) = count_refuses r

  pub means_count : (a : Outcome ℕ) → CountMeans s text a → count_of s text ≡ a
  unfolding count_within
  means_count a (counts d m n) = ap (outcome_map length) (means_outcome _ (divides d m)) ∙ ap given n
  means_count a (count_refuses r) = ap (outcome_map length) (means_outcome _ (refuses r))

  -- writing the list into a buffer of so many words
  module _ (words : ℕ) where
    pub list_means : (a : Outcome ℕ) → list_of s text words ≡ a → ListMeans s text words a
    unfolding list_within written_within
    list_means a e = subst (ListMeans s text words) e (go (outcome_of s text) own_means)
      where
        by_room : {ts : List (Tok Character Kind)} → Divided s text ts [] → NoMark s text → (b : Bool) → ltb (room_of words) (length ts) ≡ b →
            ListMeans s text words (outcome_map length (unless (refused_if b (refusal.Room (length ts))) (given ts)))
        by_room d m true f = no_room d m refl (ltb-true _ _ f)
        by_room d m false f = lists d m refl (ltb-false _ _ f)

        go : (o : Outcome (List (Tok Character Kind))) → OutcomeMeans o → ListMeans s text words (outcome_map length (roomed words o))
        go o (divides d m) = by_room d m _ refl
        go o (refuses r) = list_refuses r

    pub means_list : (a : Outcome ℕ) → ListMeans s text words a → list_of s text words ≡ a
    unfolding list_within written_within
    means_list a (lists {ts = ts} d m n h) =
        ap (λ o. outcome_map length (roomed words o)) (means_outcome _ (divides d m)) ∙ ap (outcome_map length) (roomed_in words ts (rw n h)) ∙ ap given n
    means_list a (no_room {ts = ts} d m n h) =
        ap (λ o. outcome_map length (roomed words o)) (means_outcome _ (divides d m)) ∙ ap (outcome_map length) (roomed_out words ts (rw n h)) ∙ ap (λ (k : ℕ). refused (refusal.Room k)) n
    means_list a (list_refuses r) = ap (λ o. outcome_map length (roomed words o)) (means_outcome _ (refuses r))

  -- what the buffer then holds: the words of the tokens' list in its front, and past them what it held
  pub list_written : (out : List ℕ) (n : ℕ) → list_of s text (length out) ≡ given n →
      (ts : List (Tok Character Kind)) × Divided s text ts [] × (length ts ≡ n) × (list_words s text out ≡ laid out 0 (listed_words text ts))
  unfolding list_within list_words_within written_within
  list_written out n e =
      let (ts, g, l) = counts_given (roomed (length out) (outcome_of s text)) n e in
      go (outcome_means (given ts) (roomed_given (length out) (outcome_of s text) ts g).0) l (ap (laid_by (listed_words text) out) g)
    where
      go : {ts : List (Tok Character Kind)} → OutcomeMeans (given ts) → length ts ≡ n → list_words s text out ≡ laid out 0 (listed_words text ts) →
          (us : List (Tok Character Kind)) × Divided s text us [] × (length us ≡ n) × (list_words s text out ≡ laid out 0 (listed_words text us))
      go (divides d m) l w = (_, d, l, w)

  -- "a refused call leaves every word that was lent as it was"
  pub list_kept : (out : List ℕ) (r : Refusal) → list_of s text (length out) ≡ refused r → list_words s text out ≡ out
  unfolding list_within list_words_within written_within
  list_kept out r e = ap (laid_by (listed_words text) out) (counts_refused (roomed (length out) (outcome_of s text)) r e)
