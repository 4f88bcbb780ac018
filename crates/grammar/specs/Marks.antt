-- The direction marks that are refused (docs/RULES.md, "Direction marks"; UAX #31 of Unicode 16.0, UAX31-R3a-1), over any units: a mark
-- must not part what is one token without it.
use Rattle.std.specs.Prelude.{ℕ, ◌+◌, ◌≡◌, Bool, true, false, List, [], ◌∷◌, ◌++◌, length}
use Rattle.grammar.specs.White.{mark}
use Rattle.grammar.specs.Scan.{Tok, units_of}
use Rattle.grammar.specs.Division.{Division}
use Rattle.grammar.specs.Meaning.{Meaning}
use Rattle.grammar.specs.Grammar.{Kind, identifier, syntax, whitespace, Token}

-- whether a kind of token is none of the three of White
abbrev pub not_white : Kind → Bool
not_white identifier = true
not_white syntax = true
not_white (whitespace w) = false

module _ {A : Type 0} where
  -- there is a first token, and it isn't White
  abbrev pub first_not_white : List (Tok A Kind) → Bool
  first_not_white [] = false
  first_not_white (t ∷ ts) = not_white t.kind

  -- there is a last one, and it isn't White
  abbrev pub last_not_white : List (Tok A Kind) → Bool
  last_not_white [] = false
  last_not_white (t ∷ []) = not_white t.kind
  last_not_white (t ∷ u ∷ ts) = last_not_white (u ∷ ts)

  -- one of the tokens ends after n units
  pub record EndsAfter (ts : List (Tok A Kind)) (n : ℕ) : Type 0 where
    pub before : List (Tok A Kind)
    pub token : Tok A Kind
    pub after : List (Tok A Kind)
    pub whole : ts ≡ before ++ token ∷ after
    pub size : length (units_of before) + length token.units ≡ n

-- "a kind 5 token with a token on both sides, neither of kind 3, 4 or 5, is refused if, in the reading of the text with that token alone
-- taken out, no token ends where it stood": t stands between the tokens before it and after it
pub record RefusedMark {A : Type 0} (m : Meaning A) (before : List (Tok A Kind)) (t : Tok A Kind) (after : List (Tok A Kind)) : Type 0 where
  pub kind : t.kind ≡ whitespace mark
  pub left : last_not_white before ≡ true
  pub right : first_not_white after ≡ true
  pub second : List (Tok A Kind)
  pub rest : List A
  pub division : Division (Token m) (units_of before ++ units_of after) second rest
  pub joined : EndsAfter second (length (units_of before)) → ⊥
