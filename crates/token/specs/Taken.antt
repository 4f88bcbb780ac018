-- One token at a place (docs/RULES.md, "Tokens" and "Named refusals").
-- `limit` is how many profile entries an image may have; the names without `_within` have the limit in force.
--
--   Taken, at_end, token_with  a refusal, a token, or that the text ends there; these two
--   unless_taken            a refusal, if there is one, else the answer
--   place_refusal           13: the place lies past the text's end
--   stop_by, stop_of         q: the first ill-formed place at or after a place, or the text's end
--   first_at                the first of the tokens from a place on; 7 where none begins
--   token_at                what stands at a place: 6, "done", the first token, or 7
--   taken_within, taken_of   the answer: what is judged before the text, then 13, else what stands at the place
use Rattle.std.specs.Prelude.{ℕ, ◌+◌, ◌-◌, not, ◌&&◌, cond, List, [], ◌∷◌, length, take, drop, ltb, eqb, Result, Ok, Err, Option as StdOption, Some, None}
use Rattle.std.proofs.Math.Option.{Option, none, some}
use Rattle.refusal.specs.declared.Refusal.{Refusal}
use Rattle.refusal.specs.declared.Refusal.TheVariants as refusal
use Rattle.utf8.specs.Subpart.{subpart_of}
use Rattle.utf8.specs.Text.{Character, text_of, Form}
use Rattle.image.specs.Limits.{max_entries}
use Rattle.grammar.specs.Scan.{Tok}
use Rattle.grammar.specs.Grammar.{Kind}
use Rattle.grammar.specs.Kinds.{kind_number}
use Rattle.refusal.specs.Outcome.{refused_if}
use Rattle.grammar.specs.Record.{token_width}
use Rattle.grammar.specs.Before.{max_text, before_within}
use Rattle.grammar.specs.Reading.{tokens_of}
use Rattle.token.specs.declared.Token.{Token}

-- a refusal, a token, or that the text ends there
abbrev pub Taken : Type 0
Taken = Result (StdOption Token) Refusal

abbrev pub at_end : Taken
at_end = Ok None

abbrev pub token_with : ℕ → ℕ → ℕ → Taken
token_with kind start end = Ok (Some (record { kind = kind; start = start; end = end }))

abbrev pub unless_taken : Option Refusal → Taken → Taken
unless_taken none t = t
unless_taken (some r) t = Err r

unfoldable pub place_refusal : List ℕ → ℕ → Option Refusal
place_refusal text place = refused_if (ltb (length text) place) refusal.Shape

-- sequences are counted from the place on
abbrev pub stop_by : ℕ → ℕ → Form → ℕ
stop_by place end (Ok u) = end
stop_by place end (Err e) = place + e.place

unfoldable pub stop_of : List ℕ → ℕ → ℕ
stop_of text place = stop_by place (length text) (text_of (drop place text))

-- at its places in the whole text
abbrev pub first_at : ℕ → List (Tok Character Kind) → Taken
first_at place [] = Err (refusal.Characters place)
first_at place (t ∷ ts) = token_with (kind_number t.kind) place (place + token_width t)

-- if the place is q and not the end, 6, with the length of the maximal subpart in the whole text from there on; if it is the end, done;
-- else the first token of the text from the place to q read as a whole text, or 7 if none begins at the place
unfoldable pub token_at : List ℕ → List ℕ → ℕ → Taken
token_at s text place =
    let q = stop_of text place in
    cond (eqb place q && not (eqb place (length text))) (Err (refusal.IllFormed place (subpart_of (drop place text))))
    (cond (eqb place (length text)) at_end (first_at place (tokens_of s (take (q - place) (drop place text)))))

unfoldable pub taken_within : ℕ → List ℕ → List ℕ → ℕ → Taken
taken_within limit s text place =
    unless_taken (before_within limit max_text s text) (unless_taken (place_refusal text place) (token_at s text place))

abbrev pub taken_of : List ℕ → List ℕ → ℕ → Taken
taken_of s text place = taken_within max_entries s text place
