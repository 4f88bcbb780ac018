-- The one division of a text: the reading of its characters is it; it covers the text; what is left stands where its tokens end. Assumes nothing.
use Prim.Native.Nat.{ℕ}
use mathlib.Core.Path.{◌≡◌, sym, ap, ◌∙◌}
use mathlib.Core.List.{List, [], append-nil}
use native.Mathlib.Omega.{arith}
use lib.ListN.{length, drop, length-drop}
use Rattle.utf8.specs.Text.{Character, Encoded, decode, width_of}
use Rattle.utf8.proofs.TextLaws.{means_decode, decode_covers}
use Rattle.utf8.proofs.EncodedLaws.{encoded_from}
use Rattle.grammar.specs.Scan.{Tok, units_of}
use Rattle.grammar.specs.Division.{Division}
use Rattle.grammar.specs.Grammar.{Kind, Token}
use Rattle.grammar.specs.Record.{tokens_width}
use Rattle.grammar.specs.Reading.{meaning_of, reading_of}
use Rattle.grammar.proofs.DivisionLaws.{division_covers}
use Rattle.grammar.proofs.GrammarLaws.{tokens_divide, tokens_unique}
use Rattle.grammar.proofs.RecordLaws.{tokens_width_lem}
use Rattle.demands.specs.Demand2.{Readable, Divided}

module _ {s text : List ℕ} where
  characters_unique : {cs : List Character} → Readable s text cs → (decode text).characters ≡ cs
  characters_unique h = ap (λ d. d.characters) (means_decode h.well_formed)

  pub reading_divides : {cs : List Character} → Readable s text cs → Divided s text (reading_of s text).tokens (reading_of s text).left
  unfolding reading_of
  reading_divides {cs} h =
      record { characters = (decode text).characters; readable = rw (characters_unique h) h; division = tokens_divide (meaning_of s) (decode text).characters }

  -- "the text's one division"
  pub divided_unique : {ts us : List (Tok Character Kind)} {left rest : List Character} → Divided s text ts left → Divided s text us rest → (ts ≡ us) × (left ≡ rest)
  divided_unique d e =
      let c : d.characters ≡ e.characters = sym (characters_unique d.readable) ∙ characters_unique e.readable in
      tokens_unique (meaning_of s) d.division (rw c e.division)

  pub left_encoded : {ts : List (Tok Character Kind)} {left : List Character} → Divided s text ts left → Encoded (drop (tokens_width ts) text) left []
  left_encoded {ts} {left} d =
      rw (tokens_width_lem ts) (encoded_from (units_of ts) left (rw (division_covers (Token (meaning_of s)) d.division) at d.readable.well_formed))

  -- a division to the end is one of its tokens' characters
  covers_all : {ts : List (Tok Character Kind)} (d : Divided s text ts []) → d.characters ≡ units_of ts
  covers_all {ts} d = division_covers (Token (meaning_of s)) d.division ∙ append-nil (units_of ts)

  pub own_division : {ts : List (Tok Character Kind)} → Divided s text ts [] → Division (Token (meaning_of s)) (units_of ts) ts []
  own_division d = rw (covers_all d) at d.division

  -- the list covers the text from byte 0 to its end
  pub divided_covers : {ts : List (Tok Character Kind)} → Divided s text ts [] → tokens_width ts ≡ length text
  divided_covers {ts} d =
      let c = rw (means_decode d.readable.well_formed) at (decode_covers text) in
      let w : tokens_width ts ≡ width_of d.characters = tokens_width_lem ts ∙ ap width_of (sym (covers_all d)) in
      let l = length-drop (width_of d.characters) text in
      let n : length (drop (width_of d.characters) text) ≡ 0 = ap length c.after in
      omega (arith, c.within)
