-- Records from the starts of tokens. Assumes nothing.
use Prim.Native.Nat.{ℕ, zero, suc, ◌+◌, ◌/◌, ◌%◌}
use mathlib.Core.Path.{◌≡◌, refl, sym, ap, ◌∙◌}
use mathlib.Core.List.{List, [], ◌∷◌, ◌++◌, append_assoc}
use native.Mathlib.Nat.{zero-add, add-zero}
use native.Mathlib.Omega.{arith}
use lib.ListN.{length, take, length-append}
use lib.Seq.{take_at, append_snoc}
use Rattle.lists.specs.Each.{each_from, each}
use Rattle.utf8.specs.Text.{Character, decode, characters_at, width_of}
use Rattle.line.specs.Line.{line_of, LineAt}
use Rattle.grammar.specs.Scan.{Tok, units_of}
use Rattle.grammar.specs.Grammar.{Kind, Token}
use Rattle.grammar.specs.Division.{Division}
use Rattle.grammar.specs.Kinds.{kind_number}
use Rattle.grammar.specs.Record.{Record, token_words, record_words, token_width, tokens_width, records_from, words_of, listed_words}
use Rattle.grammar.specs.Reading.{meaning_of, reading_of, tokens_of}
use Rattle.grammar.proofs.DivisionLaws.{division_covers}
use Rattle.grammar.proofs.GrammarLaws.{tokens_divide}
use Rattle.grammar.proofs.JoinLaws.{units_append}
use Rattle.grammar.proofs.RecordLaws.{tokens_width_lem, tokens_append, length_records, records_append}
use Rattle.turns.specs.Turns.{after_of}
use Rattle.turns.specs.Starts.{StartOf}
use Rattle.write.specs.Records.{words_at, record_at, place_after, Spans}
use Rattle.write.proofs.SpanLaws.{span_past}

abbrev Tokens : Type 0
Tokens = List (Tok Character Kind)

-- all records one after the other are the list
words_from : (f : ℕ → List ℕ) (rs : List Record) (i : ℕ) → ((j : ℕ) → f (i + j) ≡ words_at rs j) → each_from f (length rs) i ≡ words_of rs
unfolding each_from
words_from f [] i h = refl
words_from f (r ∷ rs) i h =
    let a : f i ≡ record_words r = ap f (sym (add-zero i)) ∙ h 0 in
    let b = words_from f rs (suc i) (λ j. ap f (let z : suc i + j ≡ i + suc j = omega arith in z) ∙ h (suc j)) in
    (λ d. a d ++ b d)

pub each_record : (s text : List ℕ) → each (record_at s text) (length (tokens_of s text)) ≡ listed_words text (tokens_of s text)
unfolding each record_at
each_record s text =
    let rs = records_from text 0 (tokens_of s text) in
    ap (λ (n : ℕ). each_from (record_at s text) n 0) (sym (length_records text 0 (tokens_of s text)))
    ∙ words_from (record_at s text) rs 0 (λ j. ap (record_at s text) (zero-add j))

words_past : (rs qs : List Record) (r : Record) (k : ℕ) → length rs ≡ k → words_at (rs ++ r ∷ qs) k ≡ record_words r
words_past [] qs r zero e = refl
words_past [] qs r (suc k) e = absurd (omega arith)
words_past (x ∷ rs) qs r zero e = absurd (omega arith)
words_past (x ∷ rs) qs r (suc k) e = words_past rs qs r k (omega arith)

pub divided : (s text : List ℕ) → Division (Token (meaning_of s)) (decode text).characters (tokens_of s text) (reading_of s text).left
unfolding reading_of
divided s text = tokens_divide (meaning_of s) (decode text).characters

module _ {s text : List ℕ} {k c : ℕ} (h : StartOf s text k c) where
  pub place_here : place_after s text k ≡ c / 16
  place_here = ap (λ (ts : Tokens). tokens_width (take k ts)) h.parted ∙ ap tokens_width (take_at h.front (h.token ∷ h.back) k h.number) ∙ sym h.place

  pub place_next : place_after s text (k + 1) ≡ c / 16 + token_width h.token
  place_next =
      let us = h.front ++ h.token ∷ [] in
      let n : length us ≡ k + 1 = omega (arith, length-append h.front (h.token ∷ []), h.number) in
      ap (λ (ts : Tokens). tokens_width (take (k + 1) ts)) (h.parted ∙ sym (append_snoc h.front h.token h.back))
      ∙ ap tokens_width (take_at us h.back (k + 1) n)
      ∙ tokens_append h.front (h.token ∷ [])
      ∙ omega (arith, h.place)

  -- its characters
  pub units_here : {end : ℕ} → end ≡ place_after s text (k + 1) →
      (characters_at text (c / 16) ≡ h.token.units ++ characters_at text end) × (end ≡ c / 16 + width_of h.token.units)
  units_here {end} e =
      let u = units_of h.front in
      let v = h.token.units in
      let r = units_of h.back ++ (reading_of s text).left in
      let p : (decode text).characters ≡ u ++ (v ++ r) =
      division_covers (Token (meaning_of s)) (divided s text)
      ∙ ap (λ (ts : Tokens). units_of ts ++ (reading_of s text).left) h.parted
      ∙ ap (λ (cs : List Character). cs ++ (reading_of s text).left) (units_append h.front (h.token ∷ h.back))
      ∙ simp append_assoc in
      let a : 0 + width_of u ≡ c / 16 = omega (arith, tokens_width_lem h.front, h.place) in
      let w : end ≡ c / 16 + width_of v = e ∙ place_next in
      let q : characters_at text (c / 16) ≡ v ++ r = ap (characters_at text) (sym a) ∙ span_past text 0 u (v ++ r) p in
      (q ∙ ap (λ (cs : List Character). v ++ cs) (sym (ap (characters_at text) w ∙ span_past text (c / 16) v r q)), w)

  pub spans_here : {end : ℕ} → end ≡ place_after s text (k + 1) → Spans text (c / 16) end
  spans_here e = record { units = h.token.units; parted = (units_here e).0; wide = (units_here e).1 }

  -- its record
  pub record_here : {end line kind : ℕ} → end ≡ place_after s text (k + 1) → LineAt text (c / 16) line → kind ≡ after_of (c % 16) →
      record_at s text k ≡ token_words kind (c / 16) end line
  unfolding record_at
  record_here {end} {line} {kind} e i f =
      let ts = h.front in
      let t = h.token in
      let p : 0 + tokens_width ts ≡ c / 16 = omega (arith, h.place) in
      let m : kind ≡ kind_number t.kind = f ∙ h.kind in
      let w : end ≡ 0 + tokens_width ts + token_width t = omega (arith, e, place_next) in
      let l : line ≡ line_of text (0 + tokens_width ts) = i.same ∙ ap (line_of text) (sym p) in
      ap (λ (us : Tokens). words_at (records_from text 0 us) k) h.parted
      ∙ ap (λ (rs : List Record). words_at rs k) (records_append text 0 ts (t ∷ h.back))
      ∙ words_past (records_from text 0 ts) _ _ k (length_records text 0 ts ∙ h.number)
      ∙ (λ j. token_words (sym m j) (p j) (sym w j) (sym l j))
