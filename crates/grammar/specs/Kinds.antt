-- The kinds of tokens by their numbers, and the rules of the one-pass reader for them (docs/RULES.md, "Tokens").
-- `proofs/GrammarLaws.antt` joins the rules to the tokens of `Grammar.antt`.
--
--   kind_number            the number of a kind in the token list
--   is_continue, is_white   whether a class is Start or Nonstart; whether it is White
--   kind_by, kind_of        the kind of token that a class begins, if any; that a unit begins
--   continues             whether a unit is Continue
--   goes_with, links_with   whether a token of a kind goes on with a unit; whether a unit may link it to the next one
--   local_rules, rules     these rules, of one unit at a time; the same for the one-pass reader
use Rattle.std.specs.Prelude.{ℕ, Bool, true, false, ◌&&◌}
use Rattle.std.proofs.Math.Option.{Option, none, some}
use Rattle.image.specs.Class.{Class, Unassigned, Start, Nonstart, Syntax, White, Other}
use Rattle.grammar.specs.White.{WhiteKind, blank, line_end, mark, same_white}
use Rattle.grammar.specs.Scan.{Rules}
use Rattle.grammar.specs.Step.{Local, rules_by}
use Rattle.grammar.specs.Meaning.{Meaning}
use Rattle.grammar.specs.Grammar.{Kind, identifier, syntax, whitespace}

abbrev pub kind_number : Kind → ℕ
kind_number identifier = 1
kind_number syntax = 2
kind_number (whitespace blank) = 3
kind_number (whitespace line_end) = 4
kind_number (whitespace mark) = 5

abbrev pub is_continue : Class → Bool
is_continue Unassigned = false
is_continue Start = true
is_continue Nonstart = true
is_continue Syntax = false
is_continue White = false
is_continue Other = false

abbrev pub is_white : Class → Bool
is_white Unassigned = false
is_white Start = false
is_white Nonstart = false
is_white Syntax = false
is_white White = true
is_white Other = false

-- w is the unit's kind of White
abbrev pub kind_by : WhiteKind → Class → Option Kind
kind_by w Unassigned = none
kind_by w Start = some identifier
kind_by w Nonstart = none
kind_by w Syntax = some syntax
kind_by w White = some (whitespace w)
kind_by w Other = none

-- an identifier goes on with a Continue, and through a medial that a Continue follows; white space with White of its kind; a syntax
-- token doesn't go on
module _ {A : Type 0} (m : Meaning A) where
  abbrev pub kind_of : A → Option Kind
  kind_of c = kind_by (m.white c) (m.class c)

  abbrev pub continues : A → Bool
  continues c = is_continue (m.class c)

  abbrev pub goes_with : Kind → A → Bool
  goes_with identifier c = continues c
  goes_with syntax c = false
  goes_with (whitespace w) c = is_white (m.class c) && same_white w (m.white c)

  abbrev pub links_with : Kind → A → Bool
  links_with identifier c = m.medial c
  links_with syntax c = false
  links_with (whitespace w) c = false

  abbrev pub local_rules : Local A Kind
  local_rules = record { kind_of = kind_of; goes = goes_with; links = links_with }

  abbrev pub rules : Rules A Kind
  rules = rules_by local_rules
