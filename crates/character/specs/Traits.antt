-- Inner: no public statement cites this file.
-- What is known of a code point, as one number (docs/RULES.md, "The class image", roles, and "Tokens").
use Rattle.std.specs.Prelude.{ℕ, ◌+◌, Bool, true, false, cond, List, leb, eqb}
use Rattle.image.specs.Class.{Class, White, class_number, class_named}
use Rattle.image.specs.Check.{class_of, medial_of, hashtag_of}
use Rattle.grammar.specs.White.{WhiteKind, blank, line_end, mark, white_of}

-- a class as a part of traits: its number, but for White one for each of its kinds
abbrev pub white_part : WhiteKind → ℕ
white_part blank = 4
white_part line_end = 6
white_part mark = 7

unfoldable pub class_part : ℕ → ℕ → ℕ
class_part class x = cond (eqb class (class_number White)) (white_part (white_of x)) class

abbrev pub medial_part : Bool → ℕ
medial_part true = 8
medial_part false = 0

abbrev pub hashtag_part : Bool → ℕ
hashtag_part true = 16
hashtag_part false = 0

-- what the token rules know: the part of the class after the profile, 0 to 7, and 8 more for a medial
unfoldable pub token_traits : List ℕ → ℕ → ℕ
token_traits s x = class_part (class_of s x) x + medial_part (medial_of s x)

-- all that is known: 16 more for role 5
unfoldable pub traits_of : List ℕ → ℕ → ℕ
traits_of s x = token_traits s x + hashtag_part (hashtag_of s x)

-- what the part of a class tells: the class, and the kind of White
abbrev pub part_class : ℕ → Class
part_class n = cond (leb 6 n) White (class_named n)

abbrev pub part_white : ℕ → WhiteKind
part_white n = cond (eqb n 6) line_end (cond (eqb n 7) mark blank)
