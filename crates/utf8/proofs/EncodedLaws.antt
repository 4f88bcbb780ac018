-- Texts as sequences one after the other: each a scalar value, together the text, and the same from and up to a boundary.
-- Assumes nothing.
use Prim.Native.Nat.{ℕ, ◌+◌, ◌≤◌, ◌<◌}
use mathlib.Core.Path.{◌≡◌, refl, sym, ap, ◌∙◌}
use mathlib.Core.Bool.{true}
use mathlib.Core.List.{List, [], ◌∷◌, ◌++◌}
use native.Mathlib.Omega.{arith}
use lib.ListN.{length, take, drop, length-append}
use lib.Seq.{drop-drop, drop-append_seam, drop-append-add, take-append-add}
use Rattle.utf8.specs.Scalar.{is_scalar}
use Rattle.utf8.specs.Head.{NoSequence}
use Rattle.utf8.specs.Text.{Character, width_of, Encoded, ends, takes}
use Rattle.utf8.proofs.SequenceLaws.{sequence_length, sequence_scalar, none_empty}

-- every character is a scalar value
abbrev pub AllScalar : List Character → Type 0
AllScalar [] = Unit {0}
AllScalar (c ∷ cs) = (is_scalar c.code ≡ true) × AllScalar cs

pub encoded_scalar : {s r : List ℕ} {cs : List Character} → Encoded s cs r → AllScalar cs
encoded_scalar (ends n) = tt
encoded_scalar (takes q r e f d) = (sequence_scalar q f, encoded_scalar d)

-- every character has bytes
abbrev pub AllWide : List Character → Type 0
AllWide [] = Unit {0}
AllWide (c ∷ cs) = (0 < c.width) × AllWide cs

pub encoded_wide : {s r : List ℕ} {cs : List Character} → Encoded s cs r → AllWide cs
encoded_wide (ends n) = tt
encoded_wide (takes q r e f d) = ((sequence_length q f).0, encoded_wide d)

-- no more characters than bytes
pub encoded_few : {s r : List ℕ} {cs : List Character} → Encoded s cs r → length cs ≤ length s
encoded_few (ends n) = omega arith
encoded_few (takes q r e f d) =
    let i = encoded_few d in
    let l = ap length e ∙ length-append q r in
    omega (arith, (sequence_length q f).0)

-- the characters' bytes and the rest are the text
pub record Covers (s : List ℕ) (w : ℕ) (r : List ℕ) : Type 0 where
  pub within : w ≤ length s
  pub after : drop w s ≡ r

pub encoded_covers : {s r : List ℕ} {cs : List Character} → Encoded s cs r → Covers s (width_of cs) r
encoded_covers (ends n) = record { within = omega arith; after = refl }
encoded_covers (takes {cs = cs} q r e f d) =
    let c = encoded_covers d in
    let l = ap length e ∙ length-append q r in
    record { within = omega (arith, c.within); after = ap (drop (length q + width_of cs)) e ∙ drop-append-add q r (width_of cs) ∙ c.after }

-- no sequence begins where the characters end
pub encoded_stops : {s r : List ℕ} {cs : List Character} → Encoded s cs r → NoSequence r
encoded_stops (ends n) = n
encoded_stops (takes q r e f d) = encoded_stops d

-- the text from a boundary between characters on
pub encoded_next : {s rest : List ℕ} {c : Character} {cs : List Character} → Encoded s (c ∷ cs) rest → Encoded (drop c.width s) cs rest
encoded_next {s} (takes q r e f d) =
    let p : drop (length q) s ≡ r = ap (drop (length q)) e ∙ drop-append_seam q r in
    rw p d

pub encoded_from : {s rest : List ℕ} (u l : List Character) → Encoded s (u ++ l) rest → Encoded (drop (width_of u) s) l rest
encoded_from [] l d = d
encoded_from {s} (c ∷ u) l d = rw (sym (drop-drop (width_of u) c.width s)) (encoded_from u l (encoded_next d))

-- the text up to the place where no sequence begins
pub encoded_before : {s r : List ℕ} {cs : List Character} → Encoded s cs r → Encoded (take (width_of cs) s) cs []
encoded_before (ends n) = ends (none_empty [] refl)
encoded_before (takes {cs = cs} q r e f d) =
    takes q (take (width_of cs) r) (ap (take (length q + width_of cs)) e ∙ take-append-add q r (width_of cs)) f (encoded_before d)
