-- What a token is (docs/RULES.md, "Tokens"), over any units that have a class and may be medials.
-- Identifiers are those of UAX #31 of Unicode 16.0, UAX31-R1-2: definition UAX31-D1 with the image's Start, Continue and Medial.
--
--   Kind                            the kinds of tokens: identifier, syntax, and whitespace of three kinds
--   Continue                        a class that is Start or Nonstart
--   IsContinue, IsMedial, IsWhite   a unit that is Continue; a medial; White of a kind
--   Groups                          any number of groups, each of one medial and one or more Continue
--   Identifier                      one Start, any number of Continue, then groups
--   SyntaxToken                     one unit of class Syntax
--   Whitespace                      one or more units of class White, of one kind
--   Token                           the units are a token of a kind, whatever stands around them
use Rattle.std.specs.Prelude.{◌≡◌, true, List, [], ◌∷◌, ◌++◌, ◌⊎◌}
use Rattle.image.specs.Class.{Class, Start, Nonstart, Syntax, White}
use Rattle.grammar.specs.All.{All}
use Rattle.grammar.specs.White.{WhiteKind}
use Rattle.grammar.specs.Meaning.{Meaning}

pub data Kind : Type 0 where
  identifier syntax : Kind
  whitespace : WhiteKind → Kind

abbrev pub Continue : Class → Type 0
Continue a = (a ≡ Start) ⊎ (a ≡ Nonstart)

module _ {A : Type 0} (m : Meaning A) where
  abbrev pub IsContinue : A → Type 0
  IsContinue c = Continue (m.class c)

  abbrev pub IsMedial : A → Type 0
  IsMedial c = m.medial c ≡ true

  abbrev pub IsWhite : WhiteKind → A → Type 0
  IsWhite w c = (m.class c ≡ White) × (m.white c ≡ w)

  -- (<Medial> <Continue>+)*. A medial that is itself Continue may be taken as either: the same units are identifiers
  pub data Groups : List A → Type 0 where
    no_group : Groups []
    group : {d c : A} (cs : List A) {gs : List A} → IsMedial d → IsContinue c → All IsContinue cs → Groups gs → Groups (d ∷ c ∷ (cs ++ gs))

  -- <Identifier> := <Start> <Continue>* (<Medial> <Continue>+)*
  pub record Identifier (u : List A) : Type 0 where
    pub first : A
    pub plain : List A
    pub groups : List A
    pub whole : u ≡ first ∷ (plain ++ groups)
    pub start : m.class first ≡ Start
    pub continued : All IsContinue plain
    pub grouped : Groups groups

  pub record SyntaxToken (u : List A) : Type 0 where
    pub only : A
    pub whole : u ≡ only ∷ []
    pub class : m.class only ≡ Syntax

  pub record Whitespace (w : WhiteKind) (u : List A) : Type 0 where
    pub first : A
    pub others : List A
    pub whole : u ≡ first ∷ others
    pub white : All (IsWhite w) (first ∷ others)

  abbrev pub Token : Kind → List A → Type 0
  Token identifier u = Identifier u
  Token syntax u = SyntaxToken u
  Token (whitespace w) u = Whitespace w u
