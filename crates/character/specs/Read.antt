-- Inner: no public statement cites this file.
-- The traits of characters (docs/RULES.md, "The class image" and "Tokens") without a search for each: a memo, a table for ASCII, and what
-- reading a character gives.
use Rattle.std.specs.Prelude.{ℕ, ◌/◌, ◌%◌, ◌≤◌, ◌<◌, ◌≡◌, List, length, get_or, drop}
use Rattle.lists.specs.Filled.{Filled}
use Rattle.utf8.specs.declared.Step.TheVariants.{Scalar}
use Rattle.utf8.specs.Head.{step_of, IllHead}
use Rattle.character.specs.Traits.{token_traits, traits_of}
use Rattle.character.specs.declared.Memo.{Memo}
use Rattle.character.specs.declared.Character.{Character}

-- every code point of the memo has its traits under the image s
abbrev pub MemoOf : List ℕ → Memo → Type 0
MemoOf s m = (y : ℕ) → m.first ≤ y → y ≤ m.last → traits_of s y ≡ m.traits

-- .. and x is one of them
pub record MemoAt (s : List ℕ) (x : ℕ) (m : Memo) : Type 0 where
  pub from : m.first ≤ x
  pub to : x ≤ m.last
  pub all : MemoOf s m

-- the table holds the traits of ASCII, or what the token rules know
abbrev pub TableOf : List ℕ → List ℕ → Type 0
TableOf s t = Filled 128 (traits_of s) t 128

-- a list begins with such a table
pub record TokenTableOf (s t : List ℕ) : Type 0 where
  pub long : 128 ≤ length t
  pub each : (y : ℕ) → y < 128 → get_or t y 0 ≡ token_traits s y

-- the character of a packed sequence, 8 times its code point and its length: the length, the code point and its traits
pub record Settled (s : List ℕ) (packed : ℕ) (r : Character) : Type 0 where
  pub memo : MemoOf s r.memo
  pub len : r.len ≡ packed % 8
  pub code : r.code ≡ packed / 8
  pub traits : r.traits ≡ traits_of s (packed / 8)

-- the character of an ASCII byte
abbrev pub ascii_character : ℕ → ℕ → Memo → Character
ascii_character b traits memo = record { len = 1; code = b; traits = traits; memo = memo }

-- the character of `text` at a place, under the image s: its length, its code point and what f gives that; length 0 where the text is
-- ill-formed
pub record ReadBy (f : ℕ → ℕ) (s text : List ℕ) (at : ℕ) (r : Character) : Type 0 where
  pub memo : MemoOf s r.memo
  pub none : r.len ≡ 0 → IllHead (drop at text)
  pub some : 0 < r.len → (step_of (drop at text) ≡ Scalar r.code r.len) × (r.traits ≡ f r.code)

-- .. its traits, or what the token rules know
abbrev pub ReadAs : List ℕ → List ℕ → ℕ → Character → Type 0
ReadAs s text at r = ReadBy (traits_of s) s text at r

abbrev pub ReadTokenAs : List ℕ → List ℕ → ℕ → Character → Type 0
ReadTokenAs s text at r = ReadBy (token_traits s) s text at r
