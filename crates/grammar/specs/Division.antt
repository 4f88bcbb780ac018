-- The division of a text into tokens, each the longest at its place (docs/RULES.md, "Tokens"; demand 2), over any units and kinds.
use Rattle.std.specs.Prelude.{◌≡◌, List, [], ◌∷◌, ◌++◌, ◌≤◌, length}
use Rattle.grammar.specs.Scan.{Tok}

-- `Token k u`: the units u are a token of kind k
module _ {A K : Type 0} (Token : K → List A → Type 0) where
  -- a token of kind k with the units u begins the text, and no token that begins it is longer
  pub record Longest (text : List A) (k : K) (u rest : List A) : Type 0 where
    pub whole : text ≡ u ++ rest
    pub token : Token k u
    pub longest : (j : K) (v w : List A) → text ≡ v ++ w → Token j v → length v ≤ length u

  -- no token begins the text
  abbrev pub NoToken : List A → Type 0
  NoToken text = (j : K) (v w : List A) → text ≡ v ++ w → Token j v → ⊥

  -- longest tokens one after the other from the text's beginning, up to the place where none begins, and what is left there
  pub data Division : List A → List (Tok A K) → List A → Type 0 where
    ends : {s : List A} → NoToken s → Division s [] s
    takes : {s : List A} {k : K} {u rest : List A} {ts : List (Tok A K)} {left : List A} →
        Longest s k u rest → Division rest ts left → Division s (record { kind = k; units = u } ∷ ts) left
