-- A text has no more tokens than bytes, so there is always room for them in so many records. Assumes nothing.
use Prim.Native.Nat.{ℕ, ◌≤◌, ◌<◌}
use mathlib.Core.Path.{◌≡◌, refl, ap, ◌∙◌}
use mathlib.Core.List.{List, [], ◌∷◌}
use mathlib.Core.Option.{Option, none, some}
use native.Mathlib.Omega.{arith}
use lib.ListN.{length, length-append}
use Rattle.std.specs.Prelude.{Ok, Err}
use Rattle.lists.proofs.BoolLaws.{impossible}
use Rattle.refusal.specs.declared.Refusal.{Refusal}
use Rattle.refusal.specs.declared.Refusal.TheVariants as refusal
use Rattle.refusal.specs.Refusal.{number_of}
use Rattle.refusal.specs.Outcome.{Outcome, given, refused, unless}
use Rattle.utf8.specs.Text.{Character, decode, text_of, Form}
use Rattle.utf8.proofs.TextLaws.{characters_few}
use Rattle.image.proofs.ImageLaws.{means_refusal, refusal_number}
use Rattle.grammar.specs.Scan.{Tok}
use Rattle.grammar.specs.Division.{Division}
use Rattle.grammar.specs.Division as division
use Rattle.grammar.specs.Meaning.{Meaning}
use Rattle.grammar.specs.Grammar.{Kind, identifier, syntax, whitespace, Token}
use Rattle.grammar.specs.Second.{first_refused}
use Rattle.grammar.specs.Record.{room_of}
use Rattle.grammar.specs.Before.{max_text, before_text, BeforeMeans, of_image, too_long, allowed}
use Rattle.grammar.specs.Reading.{meaning_of, reading_of, tokens_of, form_refusal_by, mark_refusal_by, mark_refusal, judged, read_through, outcome_within, outcome_of, roomed, written_within, written_of, list_within, list_of}
use Rattle.grammar.proofs.BeforeLaws.{before_means}
use Rattle.grammar.proofs.GrammarLaws.{tokens_divide}
use Rattle.grammar.proofs.AnswerLaws.{counts_given, roomed_in, roomed_given}

-- a token has a unit
token_some : {A : Type 0} (m : Meaning A) (k : Kind) (u : List A) → Token m k u → 0 < length u
token_some m identifier u t = let l = ap length t.whole in omega arith
token_some m syntax u t = let l = ap length t.whole in omega arith
token_some m (whitespace w) u t = let l = ap length t.whole in omega arith

few_divided : {A : Type 0} (m : Meaning A) {s left : List A} {ts : List (Tok A Kind)} → Division (Token m) s ts left → length ts ≤ length s
few_divided m (division.ends n) = omega arith
few_divided m (division.takes {k = k} {u = u} {rest = r} l d) =
    let i = few_divided m d in
    let e = ap length l.whole ∙ length-append u r in
    omega (arith, token_some m k u l.token)

module _ (s text : List ℕ) where
  pub few_tokens : length (tokens_of s text) ≤ length text
  unfolding reading_of
  few_tokens = omega (arith, few_divided (meaning_of s) (tokens_divide (meaning_of s) (decode text).characters), characters_few text)

  -- an outcome is a refusal other than 8, or no more tokens than the text has bytes
  abbrev Read : Outcome (List (Tok Character Kind)) → Type 0
  Read (given ts) = length ts ≤ length text
  Read (refused r) = (n : ℕ) → r ≡ refusal.Room n → ⊥

  by_mark : (o : Option (List (Tok Character Kind))) → Read (unless (mark_refusal_by o) (given (tokens_of s text)))
  by_mark none = few_tokens
  by_mark (some ts) = λ n e. impossible (cc)

  by_left : (l : List Character) → Read (judged s (tokens_of s text) l)
  unfolding mark_refusal
  by_left [] = by_mark (first_refused (meaning_of s) [] (tokens_of s text))
  by_left (c ∷ l) = λ n e. impossible (cc)

  by_form : (t : Form) (o : Outcome (List (Tok Character Kind))) → Read o → Read (unless (form_refusal_by t) o)
  by_form (Ok u) o h = h
  by_form (Err e) o h = λ n e. impossible (cc)

  outcome_read : Read (outcome_of s text)
  unfolding outcome_within read_through
  outcome_read = go (before_text max_text s text) (before_means max_text s text)
    where
      go : (o : Option Refusal) → BeforeMeans max_text s text o → Read (unless o (read_through s text))
      go o (of_image {r} m) = λ n f. let k = ap number_of f in omega (arith, refusal_number s r (means_refusal s (some r) m))
      go o (too_long a h) = λ n f. impossible (cc)
      go o (allowed a h) = by_form (text_of text) _ (by_left (reading_of s text).left)

  -- 8 comes of the room alone
  pub outcome_no_room : (n : ℕ) → outcome_of s text ≡ refused (refusal.Room n) → ⊥
  outcome_no_room n e =
      let h : Read (refused (refusal.Room n)) = rw e at outcome_read in
      h n refl

  -- so nothing lacks room where there is room for a token at every byte
  pub written_all : (words : ℕ) → length text ≤ room_of words → written_of s text words ≡ outcome_of s text
  unfolding written_within
  written_all words h = go (outcome_of s text) outcome_read
    where
      go : (o : Outcome (List (Tok Character Kind))) → Read o → roomed words o ≡ o
      go (given ts) l = roomed_in words ts (omega arith)
      go (refused r) l = refl

  -- and what is listed has room
  pub list_fits : (words n : ℕ) → list_of s text words ≡ given n → n ≤ room_of words
  unfolding list_within written_within
  list_fits words n e =
      let (ts, g, l) = counts_given (roomed words (outcome_of s text)) n e in
      omega (arith, (roomed_given words (outcome_of s text) ts g).1)
