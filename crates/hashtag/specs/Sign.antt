-- The signs that begin a hashtag, and the characters that go on with it (docs/RULES.md, "Hashtags"; UAX #31, UAX31-R8-1, Start and Continue).
use Rattle.std.specs.Prelude.{ℕ, ◌≡◌, Bool, true, not, ◌&&◌, ◌||◌, List, eqb}
use Rattle.utf8.specs.Text.{Character}
use Rattle.image.specs.Class.{class_named}
use Rattle.image.specs.Check.{class_of, hashtag_of}
use Rattle.grammar.specs.Kinds.{is_continue}

-- U+0023 NUMBER SIGN, U+FE5F SMALL NUMBER SIGN, U+FF03 FULLWIDTH NUMBER SIGN
unfoldable pub is_sign : ℕ → Bool
is_sign x = eqb x 0x23 || (eqb x 0xFE5F || eqb x 0xFF03)

-- hashtag Continue under the image s: no sign, whatever its class or role; Start or Nonstart after the profile, or role 5
unfoldable pub is_hashtag_continue : List ℕ → ℕ → Bool
is_hashtag_continue s x = not (is_sign x) && (is_continue (class_named (class_of s x)) || hashtag_of s x)

-- the same of a character
abbrev pub signs : Character → Bool
signs c = is_sign c.code

abbrev pub continues : List ℕ → Character → Bool
continues s c = is_hashtag_continue s c.code

abbrev pub IsSign : Character → Type 0
IsSign c = signs c ≡ true

abbrev pub IsContinue : List ℕ → Character → Type 0
IsContinue s c = continues s c ≡ true
