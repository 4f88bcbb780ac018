-- What the traits of a code point tell under an accepted image: its class, its kind of White, whether it is a medial, and whether
-- its role is 5. Assumes nothing.
use Prim.Native.Nat.{ℕ, zero, suc, ◌+◌, ◌%◌, ◌≤◌, ◌<◌}
use mathlib.Core.Path.{◌≡◌, refl, ap, ◌∙◌}
use mathlib.Core.Bool.{Bool, true, false}
use mathlib.Core.List.{List}
use mathlib.Core.Option.{none}
use native.Mathlib.Omega.{arith}
use borrow.Author.Tests.{le-leb, lt-leb, eq-eqb, ne_eqb}
use lib.Dec.{leb}
use Rattle.lists.proofs.BoolLaws.{impossible}
use Rattle.image.specs.Class.{Class, White, class_named}
use Rattle.image.specs.Check.{refusal_of, class_of, medial_of, hashtag_of}
use Rattle.image.proofs.SectionLaws.{class_of_known}
use Rattle.grammar.specs.White.{WhiteKind, blank, line_end, mark, white_of}
use Rattle.character.specs.Traits.{white_part, class_part, medial_part, hashtag_part, token_traits, traits_of, part_class, part_white}

-- the part p tells the class a and, if that is White, its kind w
record Told (a : Class) (w : WhiteKind) (p : ℕ) : Type 0 where
  small : p ≤ 7
  class : part_class p ≡ a
  white : a ≡ White → part_white p ≡ w

white_told : (w : WhiteKind) → Told White w (white_part w)
white_told blank = record { small = omega arith; class = refl; white = λ e. refl }
white_told line_end = record { small = omega arith; class = refl; white = λ e. refl }
white_told mark = record { small = omega arith; class = refl; white = λ e. refl }

part_told : (k x : ℕ) → k ≤ 5 → Told (class_named k) (white_of x) (class_part k x)
unfolding class_part
part_told zero x h = record { small = omega arith; class = refl; white = λ e. impossible (cc) }
part_told (suc zero) x h = record { small = omega arith; class = refl; white = λ e. impossible (cc) }
part_told (suc (suc zero)) x h = record { small = omega arith; class = refl; white = λ e. impossible (cc) }
part_told (suc (suc (suc zero))) x h = record { small = omega arith; class = refl; white = λ e. impossible (cc) }
part_told (suc (suc (suc (suc zero)))) x h = white_told (white_of x)
part_told (suc (suc (suc (suc (suc zero))))) x h = record { small = omega arith; class = refl; white = λ e. impossible (cc) }
part_told (suc (suc (suc (suc (suc (suc k)))))) x h = absurd (omega arith)

pub white_small : (w : WhiteKind) → white_part w ≤ 7
white_small w = (white_told w).small

-- the part of White, and of another class
pub part_white_lem : (k x : ℕ) → k ≡ 4 → class_part k x ≡ white_part (white_of x)
unfolding class_part
part_white_lem k x e = rw (eq-eqb k 4 e)

pub part_other : (k x : ℕ) → (k ≡ 4 → ⊥) → class_part k x ≡ k
unfolding class_part
part_other k x n = rw (ne_eqb k 4 n)

class_part_lem : (a : ℕ) (m : Bool) → a ≤ 7 → (a + medial_part m) % 8 ≡ a
class_part_lem a true h = omega arith
class_part_lem a false h = omega arith

medial_part_lem : (a : ℕ) (m : Bool) → a ≤ 7 → leb 8 (a + medial_part m) ≡ m
medial_part_lem a true h = le-leb 8 (a + 8) (omega arith)
medial_part_lem a false h = lt-leb 8 (a + 0) (omega arith)

small_part : (a : ℕ) (m : Bool) → a ≤ 7 → a + medial_part m < 16
small_part a true h = omega arith
small_part a false h = omega arith

token_part : (t : ℕ) (h : Bool) → t < 16 → (t + hashtag_part h) % 16 ≡ t
token_part t true l = omega arith
token_part t false l = omega arith

rest_part : (t : ℕ) (h : Bool) → (t + hashtag_part h) % 8 ≡ t % 8
rest_part t true = omega arith
rest_part t false = omega arith

hashtag_part_lem : (t : ℕ) (h : Bool) → t < 16 → leb 16 (t + hashtag_part h) ≡ h
hashtag_part_lem t true l = le-leb 16 (t + 16) (omega arith)
hashtag_part_lem t false l = lt-leb 16 (t + 0) (omega arith)

module _ (s : List ℕ) (x : ℕ) (accepted : refusal_of s ≡ none) where
  told : Told (class_named (class_of s x)) (white_of x) (class_part (class_of s x) x)
  told = part_told (class_of s x) x (class_of_known s x accepted)

  -- what the token rules know
  token_part_class : token_traits s x % 8 ≡ class_part (class_of s x) x
  unfolding token_traits
  token_part_class = class_part_lem (class_part (class_of s x) x) (medial_of s x) told.small

  pub token_class : part_class (token_traits s x % 8) ≡ class_named (class_of s x)
  token_class = ap part_class token_part_class ∙ told.class

  pub token_white : class_named (class_of s x) ≡ White → part_white (token_traits s x % 8) ≡ white_of x
  token_white e = ap part_white token_part_class ∙ told.white e

  pub token_medial : leb 8 (token_traits s x) ≡ medial_of s x
  unfolding token_traits
  token_medial = medial_part_lem (class_part (class_of s x) x) (medial_of s x) told.small

  pub token_small : token_traits s x < 16
  unfolding token_traits
  token_small = small_part (class_part (class_of s x) x) (medial_of s x) told.small

  -- it is a part of all traits
  pub token_traits_lem : traits_of s x % 16 ≡ token_traits s x
  unfolding traits_of
  token_traits_lem = token_part (token_traits s x) (hashtag_of s x) token_small

  -- what hashtags know
  pub traits_class : part_class (traits_of s x % 8) ≡ class_named (class_of s x)
  unfolding traits_of
  traits_class = ap part_class (rest_part (token_traits s x) (hashtag_of s x)) ∙ token_class

  pub traits_hashtag : leb 16 (traits_of s x) ≡ hashtag_of s x
  unfolding traits_of
  traits_hashtag = hashtag_part_lem (token_traits s x) (hashtag_of s x) token_small
