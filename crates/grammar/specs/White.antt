-- The kinds of White by code point (docs/RULES.md, "Tokens"; UAX #31 of Unicode 16.0, UAX31-R3a-1).
use Rattle.std.specs.Prelude.{ℕ, Bool, true, false, ◌||◌, cond, eqb}
use Rattle.line.specs.Line.{is_line_end}

-- horizontal space, item 3, and every other White; line ends, item 1; direction marks, item 2
pub data WhiteKind : Type 0 where
  blank line_end mark : WhiteKind

-- the direction marks: LEFT-TO-RIGHT MARK and RIGHT-TO-LEFT MARK
unfoldable pub is_mark : ℕ → Bool
is_mark x = eqb x 0x200E || eqb x 0x200F

unfoldable pub white_of : ℕ → WhiteKind
white_of x = cond (is_line_end x) line_end (cond (is_mark x) mark blank)

abbrev pub same_white : WhiteKind → WhiteKind → Bool
same_white blank blank = true
same_white blank line_end = false
same_white blank mark = false
same_white line_end blank = false
same_white line_end line_end = true
same_white line_end mark = false
same_white mark blank = false
same_white mark line_end = false
same_white mark mark = true
