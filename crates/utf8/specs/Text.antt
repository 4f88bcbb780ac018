-- A text as characters, up to its first ill-formed place (docs/RULES.md, "UTF-8 by its first byte"): the first place at which no
-- well-formed sequence begins.
--
--   Character            a code point and the number of its bytes
--   Decoded              the characters of a text, and its bytes from the first ill-formed place on
--   ended, before        no characters, and these bytes; one character more in front
--   decode_by, decode_in   the characters of a text by the step at its head; at most k of them
--   decode               the characters of a text
--   characters_at         those from a place on
--   width_of              the bytes of characters
--   Form, ill             whether a text is well-formed, or an ill-formed place and the length of the maximal subpart
--                        there; the second of these
--   text_by, text_of       whether a text is well-formed, or its first ill-formed place and the length of the
--                        maximal subpart there
--   shift                what is said of a part that begins at byte k, said of the whole
--   character_of          the character of a sequence
--   Encoded, TextMeans   what `decode` means; what `text_of` means
use Rattle.std.specs.Prelude.{ℕ, zero, suc, ◌+◌, ◌<◌, List, [], ◌∷◌, ◌++◌, ◌≡◌, length, drop, Result, Ok, Err}
use Rattle.utf8.specs.declared.Step.{Step}
use Rattle.utf8.specs.declared.Step.TheVariants.{Scalar, IllFormed, End}
use Rattle.utf8.specs.declared.IllFormed.{IllFormed as Ill}
use Rattle.utf8.specs.Table.{Sequence}
use Rattle.utf8.specs.Encoding.{code_point}
use Rattle.utf8.specs.Subpart.{subpart_of, MaximalSubpart}
use Rattle.utf8.specs.Head.{step_of, NoSequence}

pub record Character : Type 0 where
  pub code : ℕ
  pub width : ℕ

pub record Decoded : Type 0 where
  pub characters : List Character
  pub rest : List ℕ

abbrev pub ended : List ℕ → Decoded
ended s = record { characters = []; rest = s }

abbrev pub before : Character → Decoded → Decoded
before c d = record { characters = c ∷ d.characters; rest = d.rest }

-- f decodes the bytes that follow the step
abbrev pub decode_by : (List ℕ → Decoded) → List ℕ → Step → Decoded
decode_by f s (Scalar x n) = before (record { code = x; width = n }) (f (drop n s))
decode_by f s (IllFormed n) = ended s
decode_by f s End = ended s

unfoldable pub decode_in : ℕ → List ℕ → Decoded
decode_in zero s = ended s
decode_in (suc k) s = decode_by (decode_in k) s (step_of s)

-- a text has no more characters than bytes
unfoldable pub decode : List ℕ → Decoded
decode s = decode_in (length s) s

abbrev pub characters_at : List ℕ → ℕ → List Character
characters_at s at = (decode (drop at s)).characters

abbrev pub width_of : List Character → ℕ
width_of [] = 0
width_of (c ∷ cs) = c.width + width_of cs

abbrev pub Form : Type 0
Form = Result (Unit {0}) Ill

abbrev pub ill : ℕ → ℕ → Form
ill p n = Err (record { place = p; len = n })

abbrev pub text_by : ℕ → List ℕ → Form
text_by p [] = Ok tt
text_by p (b ∷ r) = ill p (subpart_of (b ∷ r))

unfoldable pub text_of : List ℕ → Form
text_of s = text_by (width_of (decode s).characters) (decode s).rest

abbrev pub shift : ℕ → Form → Form
shift k (Ok u) = Ok u
shift k (Err e) = ill (k + e.place) e.len

abbrev pub character_of : List ℕ → Character
character_of q = record { code = code_point q; width = length q }

-- well-formed sequences one after the other, up to the place where none begins
pub data Encoded : List ℕ → List Character → List ℕ → Type 0 where
  ends : {s : List ℕ} → NoSequence s → Encoded s [] s
  takes : {s : List ℕ} {cs : List Character} {rest : List ℕ} (q r : List ℕ) → s ≡ q ++ r → Sequence q → Encoded r cs rest → Encoded s (character_of q ∷ cs) rest

-- the sequences go to the text's end; or p is the place where they end, bytes are left there, and n of them are the maximal subpart
pub data TextMeans (s : List ℕ) : Form → Type 0 where
  well_formed : {cs : List Character} → Encoded s cs [] → TextMeans s (Ok tt)
  ill_formed :
      {p n : ℕ} {cs : List Character} {rest : List ℕ} → Encoded s cs rest → 0 < length rest → p ≡ width_of cs → MaximalSubpart rest n
      → TextMeans s (ill p n)
