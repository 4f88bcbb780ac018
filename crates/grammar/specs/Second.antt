-- The reader's form of refusal 14 (docs/RULES.md, "Direction marks"): the text is read a second time without the mark.
-- `proofs/SecondLaws.antt` joins it to `Marks.antt`.
use Rattle.std.specs.Prelude.{ℕ, ◌-◌, Bool, false, not, ◌&&◌, ◌||◌, cond, List, [], ◌∷◌, ◌++◌, length, leb, eqb}
use Rattle.std.proofs.Math.Option.{Option, none, some}
use Rattle.grammar.specs.White.{mark, same_white}
use Rattle.grammar.specs.Scan.{Tok, units_of, reading}
use Rattle.grammar.specs.Meaning.{Meaning}
use Rattle.grammar.specs.Grammar.{Kind, identifier, syntax, whitespace}
use Rattle.grammar.specs.Kinds.{rules}
use Rattle.grammar.specs.Marks.{first_not_white, last_not_white}

abbrev pub is_mark_kind : Kind → Bool
is_mark_kind identifier = false
is_mark_kind syntax = false
is_mark_kind (whitespace w) = same_white mark w

module _ {A : Type 0} where
  -- whether one of the tokens ends after n units
  abbrev pub ends_after : ℕ → List (Tok A Kind) → Bool
  ends_after n [] = false
  ends_after n (t ∷ ts) = let k = length t.units in eqb n k || (leb k n && ends_after (n - k) ts)

module _ {A : Type 0} (m : Meaning A) where
  -- the text without what stands between these tokens, read again: whether a token ends where it stood
  unfoldable pub parts_still : List (Tok A Kind) → List (Tok A Kind) → Bool
  parts_still before after = ends_after (length (units_of before)) (reading (rules m) (units_of before ++ units_of after)).tokens

  -- whether the token t between them is refused
  unfoldable pub refuses_mark : List (Tok A Kind) → Tok A Kind → List (Tok A Kind) → Bool
  refuses_mark before t after = is_mark_kind t.kind && (last_not_white before && (first_not_white after && not (parts_still before after)))

  -- of the tokens ts after those before them, the first that is refused: the tokens before it
  unfoldable pub first_refused : List (Tok A Kind) → List (Tok A Kind) → Option (List (Tok A Kind))
  first_refused before [] = none
  first_refused before (t ∷ ts) = cond (refuses_mark before t ts) (some before) (first_refused (before ++ t ∷ []) ts)
