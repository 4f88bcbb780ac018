-- Taking one token at a place: each answer, exactly when. Assumes nothing.
use Prim.Native.Nat.{ℕ, ◌≤◌, ◌<◌}
use mathlib.Core.Path.{◌≡◌, refl, sym, ap, subst, ◌∙◌}
use mathlib.Core.List.{List, [], ◌∷◌}
use mathlib.Core.Option.{Option, none, some}
use native.Mathlib.Omega.{arith}
use native.Mathlib.Decide.{dec_lt}
use lib.ListN.{length, drop, length-append, length-drop, drop_of_length-le}
use Rattle.std.specs.Prelude.{Err}
use Rattle.refusal.specs.declared.Refusal.{Refusal}
use Rattle.refusal.specs.declared.Refusal.TheVariants as refusal
use Rattle.utf8.specs.declared.Step.{Step}
use Rattle.utf8.specs.declared.Step.TheVariants as step
use Rattle.utf8.specs.Subpart.{MaximalSubpart}
use Rattle.utf8.specs.Head.{step_of, StepMeans, sequence, no_sequence, empty}
use Rattle.utf8.specs.Text.{Character, Encoded, ends as no_more, takes as reads, decode}
use Rattle.utf8.proofs.TextLaws.{decode_means, means_decode}
use Rattle.utf8.proofs.SubpartLaws.{means_subpart}
use Rattle.utf8.proofs.SequenceLaws.{step_means, means_step}
use Rattle.grammar.specs.Scan.{Tok}
use Rattle.grammar.specs.Division.{Division, ends, takes}
use Rattle.grammar.specs.Grammar.{Kind, Token as TokenOf}
use Rattle.grammar.specs.Before.{max_text, before_text, BeforeMeans, allowed}
use Rattle.grammar.specs.Reading.{meaning_of, reading_of, tokens_of}
use Rattle.grammar.proofs.BeforeLaws.{before_means, means_before}
use Rattle.grammar.proofs.GrammarLaws.{fits, tokens_divide, tokens_unique}
use Rattle.turns.specs.declared.First.{First}
use Rattle.turns.specs.declared.First.TheVariants as first
use Rattle.turns.specs.First.{first_in, first_by, first_of}
use Rattle.token.specs.Taken.{Taken, taken_of}
use Rattle.token.specs.Means.{PlaceAllowed, TakenMeans, refused_before, past_end, ill_formed, no_token, done, token}
use Rattle.token.proofs.TakenLaws.{taken_by, taken_refused, taken_past, taken_first}

-- the tokens of a text whose characters are known are those of their one division
tokens_are : (s part : List ℕ) {cs : List Character} {rest : List ℕ} {ts : List (Tok Character Kind)} {left : List Character} →
    Encoded part cs rest → Division (TokenOf (meaning_of s)) cs ts left → tokens_of s part ≡ ts
unfolding reading_of
tokens_are s part {cs} {ts = ts} {left = left} e d =
    let f : (decode part).characters ≡ cs = ap (λ c. c.characters) (means_decode e) in
    let g : Division (TokenOf (meaning_of s)) (decode part).characters ts left = rw f d in
    (tokens_unique (meaning_of s) (tokens_divide (meaning_of s) (decode part).characters) g).0

-- and the first of them is the first token, where there is a character
first_is : (s part : List ℕ) {cs : List Character} {rest : List ℕ} {ts : List (Tok Character Kind)} {left : List Character} →
    Encoded part cs rest → Division (TokenOf (meaning_of s)) cs ts left → 0 < length cs → first_of s part ≡ first_in ts
unfolding first_of
first_is s part (no_more n) d h = absurd (omega arith)
first_is s part (reads q r p f e) d h =
    ap (first_by (tokens_of s part)) (means_step part _ (sequence q r p f refl refl)) ∙ ap first_in (tokens_are s part (reads q r p f e) d)

module _ (s text : List ℕ) (place : ℕ) where
  placed_means : PlaceAllowed s text place → TakenMeans s text place (taken_by text place (first_of s (drop place text)))
  unfolding first_of
  placed_means h = go (step_of (drop place text)) (step_means (drop place text) (step_of (drop place text)) refl)
    where
      by_tokens : {c : Character} {cs : List Character} {rest : List ℕ} {ts : List (Tok Character Kind)} {left : List Character} →
          Encoded (drop place text) (c ∷ cs) rest → Division (TokenOf (meaning_of s)) (c ∷ cs) ts left → TakenMeans s text place (taken_by text place (first_in ts))
      by_tokens e (ends n) = no_token h e n
      by_tokens e (takes L d) = token h e L

      go : (t : Step) → StepMeans (drop place text) t → TakenMeans s text place (taken_by text place (first_by (tokens_of s (drop place text)) t))
      go t (empty e) = done h (let n = ap length e in let l = length-drop place text in let w = h.within in omega arith)
      go t (no_sequence {n = k} l n m) =
          let e = means_subpart (drop place text) k l m in
          ill_formed h (let k = length-drop place text in omega arith) n (subst (MaximalSubpart (drop place text)) (sym e) m)
      go t (sequence q r p f c l) =
          let e = reads q r p f (decode_means r) in
          let d = tokens_divide (meaning_of s) _ in
          rw (tokens_are s (drop place text) e d) (by_tokens e d)

  own_means : TakenMeans s text place (taken_of s text place)
  own_means = go (before_text max_text s text) refl (before_means max_text s text)
    where
      by_place : before_text max_text s text ≡ none → BeforeMeans max_text s text none → Dec (length text < place) → TakenMeans s text place (taken_of s text place)
      by_place e (allowed a l) (yes h) = subst (TakenMeans s text place) (taken_past s text place e h) (past_end a l h)
      by_place e (allowed a l) (no h) =
          subst (TakenMeans s text place) (taken_first s text place e (omega arith) (first_of s (drop place text)) refl)
          (placed_means (record { image = a; short = l; within = omega arith }))

      go : (o : Option Refusal) → before_text max_text s text ≡ o → BeforeMeans max_text s text o → TakenMeans s text place (taken_of s text place)
      go (some r) e m = subst (TakenMeans s text place) (taken_refused s text place e) (refused_before m)
      go none e m = by_place e m (dec_lt (length text) place)

  pub taken_means : (t : Taken) → taken_of s text place ≡ t → TakenMeans s text place t
  taken_means t e = subst (TakenMeans s text place) e own_means

  placed_taken : PlaceAllowed s text place → (f : First) → first_of s (drop place text) ≡ f → taken_of s text place ≡ taken_by text place f
  placed_taken h f e = sym (taken_first s text place (means_before max_text s text (allowed h.image h.short)) h.within f e)

  pub means_taken : (t : Taken) → TakenMeans s text place t → taken_of s text place ≡ t
  unfolding first_of
  means_taken t (refused_before m) = sym (taken_refused s text place (means_before max_text s text m))
  means_taken t (past_end a l h) = sym (taken_past s text place (means_before max_text s text (allowed a l)) h)
  means_taken t (ill_formed {n = k} h l n m) =
      let d = length-drop place text in
      placed_taken h first.IllFormed (ap (first_by (tokens_of s (drop place text))) (means_step (drop place text) (step.IllFormed k) (no_sequence (omega arith) n m)))
      ∙ ap (λ (j : ℕ). Err (refusal.IllFormed place j)) (means_subpart (drop place text) k (omega arith) m)
  means_taken t (no_token h e n) = placed_taken h first.NoToken (first_is s (drop place text) e (ends n) (omega arith))
  means_taken t (done h e) =
      let d : drop place text ≡ [] = drop_of_length-le text (let l : length text ≤ place = omega (arith, e) in l) in
      placed_taken h first.Nothing (ap (first_by (tokens_of s (drop place text))) (means_step (drop place text) step.End (empty d)))
  means_taken t (token {us = us} {after = after} {k = k} h e L) =
      let n = ap length ((fits (meaning_of s)).starts k us L.token).2 in
      let l = ap length L.whole ∙ length-append us after in
      placed_taken h _ (first_is s (drop place text) e (takes L (tokens_divide (meaning_of s) after)) (omega arith))
