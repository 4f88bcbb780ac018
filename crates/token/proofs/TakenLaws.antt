-- One token at a place is the first token of the text from the place on. Assumes nothing.
use Prim.Native.Nat.{ℕ, ◌+◌, ◌-◌, ◌≤◌, ◌<◌}
use mathlib.Core.Path.{◌≡◌, refl, sym, ap, ◌∙◌}
use mathlib.Core.List.{List, [], ◌∷◌}
use mathlib.Core.Option.{none, some}
use native.Mathlib.Omega.{arith}
use lib.ListN.{length, take, drop, length-drop}
use borrow.Author.Tests.{lt-ltb, le-ltb, eq-eqb, ne_eqb}
use Rattle.std.specs.Prelude.{Err, Ok}
use Rattle.lists.proofs.BoolLaws.{impossible}
use Rattle.refusal.specs.declared.Refusal.{Refusal}
use Rattle.refusal.specs.declared.Refusal.TheVariants as refusal
use Rattle.utf8.specs.declared.Step.{Step}
use Rattle.utf8.specs.declared.Step.TheVariants as step
use Rattle.utf8.specs.Subpart.{subpart_of}
use Rattle.utf8.specs.Head.{step_of, IllHead}
use Rattle.utf8.specs.Text.{Character, decode, width_of, text_of, Form}
use Rattle.utf8.proofs.SequenceLaws.{end_empty, ill_at, ill_not_empty}
use Rattle.utf8.proofs.TextLaws.{step_bounds, decode_scalar, text_ill, text_end, well_rest, ill_rest, decode_covers, decode_before_ill, width_append}
use Rattle.grammar.specs.Scan.{Tok, units_of, reading}
use Rattle.grammar.specs.Grammar.{Kind}
use Rattle.grammar.specs.Record.{token_width, tokens_width}
use Rattle.grammar.specs.Before.{max_text, before_text}
use Rattle.grammar.specs.Reading.{rules_of, reading_of, tokens_of}
use Rattle.grammar.proofs.ScanLaws.{reading_covers}
use Rattle.grammar.proofs.RecordLaws.{tokens_width_lem}
use Rattle.turns.specs.declared.First.{First}
use Rattle.turns.specs.declared.First.TheVariants as first
use Rattle.grammar.specs.Counted.{stop_refusal}
use Rattle.turns.specs.First.{first_in, first_by, first_of}
use Rattle.token.specs.Taken.{Taken, place_refusal, stop_by, stop_of, first_at, token_at, taken_within, taken_of, at_end, token_with}

-- the first token of a part that begins at a place, at its places in the whole text
abbrev pub taken_by : List ℕ → ℕ → First → Taken
taken_by text place first.Nothing = at_end
taken_by text place first.IllFormed = Err (refusal.IllFormed place (subpart_of (drop place text)))
taken_by text place first.NoToken = Err (refusal.Characters place)
taken_by text place (first.Token k e) = token_with k place (place + e)

-- the characters from the place on end at q
stop_width : (text : List ℕ) (place : ℕ) → place ≤ length text → stop_of text place ≡ place + width_of (decode (drop place text)).characters
unfolding stop_of
stop_width text place h = go (text_of (drop place text)) refl
  where
    go : (t : Form) → text_of (drop place text) ≡ t → stop_by place (length text) t ≡ place + width_of (decode (drop place text)).characters
    go (Ok u) e =
        let part = drop place text in
        let w = width_of (decode part).characters in
        let c = decode_covers part in
        let l = length-drop place text in
        let m = length-drop w part in
        let n : length (drop w part) ≡ 0 = ap length (c.after ∙ well_rest part e) in
        omega (arith, c.within)
    go (Err f) e = let r = ill_rest (drop place text) f.place f.len e in omega (arith, r.place)

-- reading the part up to q finds the same tokens
same_tokens : (s part : List ℕ) → tokens_of s (take (width_of (decode part).characters) part) ≡ tokens_of s part
unfolding reading_of
same_tokens s part = ap (λ d. (reading (rules_of s) d.characters).tokens) (decode_before_ill part)

first_by_lem : (text : List ℕ) (place : ℕ) (ts : List (Tok Character Kind)) → first_at place ts ≡ taken_by text place (first_in ts)
first_by_lem text place [] = refl
first_by_lem text place (t ∷ ts) = refl

-- what stands at the front is told ill-formed only where no sequence begins
ill_first : (s part : List ℕ) → first_of s part ≡ first.IllFormed → IllHead part
unfolding first_of
ill_first s part = go (step_of part) refl (tokens_of s part)
  where
    go : (t : Step) → step_of part ≡ t → (ts : List (Tok Character Kind)) → first_by ts t ≡ first.IllFormed → IllHead part
    go (step.Scalar x n) e [] f = impossible (cc)
    go (step.Scalar x n) e (t ∷ ts) f = impossible (cc)
    go (step.IllFormed n) e ts f = ill_at part n e
    go step.End e ts f = impossible (cc)

-- there the refusal of the text from the place on is 6 at the place
pub stops_ill : (s text : List ℕ) (place : ℕ) → first_of s (drop place text) ≡ first.IllFormed →
    Err (stop_refusal place (text_of (drop place text))) ≡ taken_by text place first.IllFormed
stops_ill s text place e =
    ap (λ f. Err (stop_refusal place f)) (text_ill (drop place text) (ill_first s (drop place text) e))
    ∙ ap (λ (p : ℕ). Err (refusal.IllFormed p (subpart_of (drop place text)))) (let z : place + 0 ≡ place = omega arith in z)

module _ (s text : List ℕ) (place : ℕ) (within : place ≤ length text) where
  at_step : (t : Step) → step_of (drop place text) ≡ t → token_at s text place ≡ taken_by text place (first_by (tokens_of s (drop place text)) t)
  unfolding token_at stop_of
  at_step step.End e =
      let l = length-drop place text in
      let n = end_empty (drop place text) e in
      let z = ap length n in
      let q : place ≡ length text = omega arith in
      rw (text_end (drop place text) n) (simp (eq-eqb place (length text) q))
  at_step (step.IllFormed n) e =
      let l = length-drop place text in
      let i = ill_at (drop place text) n e in
      let h = ill_not_empty (drop place text) i in
      let q : place ≡ place + 0 = omega arith in
      rw (text_ill (drop place text) i) (simp (eq-eqb place (place + 0) q, ne_eqb place (length text) (λ z. omega arith)))
  at_step (step.Scalar x n) e =
      let part = drop place text in
      let l = length-drop place text in
      let t = step_bounds part x n e in
      let d = ap (λ d. width_of d.characters) (decode_scalar part x n e) in
      let w = stop_width text place within in
      let q : stop_of text place - place ≡ width_of (decode part).characters = omega arith in
      let r = ap (λ (k : ℕ). first_at place (tokens_of s (take k part))) q ∙ ap (first_at place) (same_tokens s part) ∙ first_by_lem text place (tokens_of s part) in
      simp (ne_eqb place (stop_of text place) (λ z. omega arith), ne_eqb place (length text) (λ z. omega arith)) r

  pub token_at_lem : token_at s text place ≡ taken_by text place (first_of s (drop place text))
  unfolding first_of
  token_at_lem = at_step (step_of (drop place text)) refl

-- a first token ends within the text
first_within_by : (ts : List (Tok Character Kind)) (t : Step) (k e : ℕ) → first_by ts t ≡ first.Token k e → e ≤ tokens_width ts
first_within_by [] (step.Scalar x n) k e f = impossible (cc)
first_within_by (t ∷ ts) (step.Scalar x n) k e f = let z : token_width t ≡ e = cc in omega arith
first_within_by ts (step.IllFormed n) k e f = impossible (cc)
first_within_by ts step.End k e f = impossible (cc)

pub first_within : (s text : List ℕ) (k e : ℕ) → first_of s text ≡ first.Token k e → e ≤ length text
unfolding first_of reading_of
first_within s text k e f =
    let w = reading_of s text in
    let c = ap width_of (reading_covers (rules_of s) (decode text).characters) ∙ width_append (units_of w.tokens) w.left in
    omega (arith, first_within_by w.tokens (step_of text) k e f, tokens_width_lem w.tokens, (decode_covers text).within)

module _ (s text : List ℕ) (place : ℕ) where
  -- 1 to 5
  pub taken_refused : {r : Refusal} → before_text max_text s text ≡ some r → Err r ≡ taken_of s text place
  unfolding taken_within
  taken_refused e = rw e

  module _ (read : before_text max_text s text ≡ none) where
    -- 13
    pub taken_past : length text < place → Err refusal.Shape ≡ taken_of s text place
    unfolding taken_within place_refusal
    taken_past h = rw (read, lt-ltb (length text) place h)

    -- else what stands at the place
    pub taken_first : place ≤ length text → (f : First) → first_of s (drop place text) ≡ f → taken_by text place f ≡ taken_of s text place
    unfolding taken_within place_refusal
    taken_first h f e = rw (read, le-ltb (length text) place h) (ap (taken_by text place) (sym e) ∙ sym (token_at_lem s text place h))
