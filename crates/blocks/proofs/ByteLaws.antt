-- The bytes at a place and the blocks: which code point's bytes stand there, and so what is found of it. Assumes nothing.
use Prim.Native.Nat.{ℕ, zero, suc, ◌+◌, ◌*◌, ◌/◌, ◌≤◌, ◌<◌}
use mathlib.Core.Path.{◌≡◌, refl, sym, ap, ◌∙◌}
use mathlib.Core.Bool.{true}
use mathlib.Core.List.{List, [], ◌∷◌, ◌++◌}
use native.Mathlib.Omega.{arith}
use native.Mathlib.Decide.{dec_lt}
use lib.ListN.{length, take, drop, get_or, take-append-drop}
use lib.Seq.{drop-cons}
use Rattle.std.specs.List.{between}
use Rattle.std.proofs.lemmas.List.Edits.{get_or-between}
use Rattle.utf8.specs.declared.Step.TheVariants.{Scalar}
use Rattle.utf8.specs.Scalar.{is_scalar, ScalarMeans, below_surrogates, above_surrogates}
use Rattle.utf8.specs.Encoding.{encoding, code_point}
use Rattle.utf8.specs.Head.{step_of}
use Rattle.utf8.specs.Lead.{is_trail}
use Rattle.utf8.proofs.ScalarLaws.{means_scalar, scalar_means}
use Rattle.utf8.proofs.EncodingLaws.{encoding_1, encoding_2, encoding_3, encoding_4, encodes_sequence, sequence_encoding}
use Rattle.utf8.proofs.SequenceLaws.{trail_range, step_of_sequence, sequence_of_step}
use Rattle.utf8.proofs.TextLaws.{step_bounds}
use Rattle.character.specs.Traits.{token_traits}
use Rattle.blocks.specs.Blocks.{block_size, HeldAt, FoundAt, BlockLong}

-- n bytes, k after a place
abbrev after : List ℕ → ℕ → ℕ → ℕ → List ℕ
after s at k zero = []
after s at k (suc n) = get_or s (at + k) 0 ∷ after s at (k + 1) n

-- the byte at a place, and n more
abbrev pub bytes : List ℕ → ℕ → ℕ → List ℕ
bytes s at n = get_or s at 0 ∷ after s at 1 n

take_after : (s : List ℕ) (at k n : ℕ) → at + k + n ≤ length s → take n (drop (at + k) s) ≡ after s at k n
take_after s at k zero h = refl
take_after s at k (suc n) h =
    let e : suc (at + k) ≡ at + (k + 1) = omega arith in
    ap (take (suc n)) (drop-cons s (at + k) 0 (omega arith))
    ∙ ap (λ (p : ℕ). get_or s (at + k) 0 ∷ take n (drop p s)) e
    ∙ ap (λ (l : List ℕ). get_or s (at + k) 0 ∷ l) (take_after s at (k + 1) n (omega arith))

-- bytes that are an encoding stand for a scalar value
stands :
    (s : List ℕ) (at n : ℕ) → at + suc n ≤ length s → bytes s at n ≡ encoding (code_point (bytes s at n)) → is_scalar (code_point (bytes s at n)) ≡ true
    → step_of (drop at s) ≡ Scalar (code_point (bytes s at n)) (length (bytes s at n))
stands s at n h e t =
    let q = bytes s at n in
    let r = drop (suc n) (drop at s) in
    let f : suc at ≡ at + 1 = omega arith in
    ap step_of
    (sym (take-append-drop (suc n) (drop at s))
    ∙ ap (λ (l : List ℕ). take (suc n) l ++ r) (drop-cons s at 0 (omega arith))
    ∙ ap (λ (p : ℕ). get_or s at 0 ∷ (take n (drop p s) ++ r)) f
    ∙ ap (λ (l : List ℕ). get_or s at 0 ∷ (l ++ r)) (take_after s at 1 n (omega arith)))
    ∙ step_of_sequence q r (encodes_sequence q (record { code = code_point q; scalar = t; bytes = e }))

-- the first byte of a part, and one that follows others
pub first_at : (s : List ℕ) (at e : ℕ) → at < e → get_or (between at e s) 0 0 ≡ get_or s at 0
first_at s at e l = let z : at + 0 ≡ at = omega arith in get_or-between s at e 0 0 (omega arith) ∙ ap (λ (k : ℕ). get_or s k 0) z

pub trail_at :
    (s : List ℕ) (at e k : ℕ) → at + k < e → true ≡ is_trail (get_or (between at e s) k 0)
    → (get_or (between at e s) k 0 ≡ get_or s (at + k) 0) × (0x80 ≤ get_or s (at + k) 0) × (get_or s (at + k) 0 < 0xC0)
trail_at s at e k l h =
    let q = get_or-between s at e k 0 l in
    let r = trail_range _ (ap is_trail (sym q) ∙ sym h) in
    (q, r.0, r.1)

-- the first code point whose sequence has so many bytes, of 2, 3 and 4
abbrev least : ℕ → ℕ
least zero = 0
least (suc zero) = 0
least (suc (suc zero)) = 0x80
least (suc (suc (suc zero))) = 0x800
least (suc (suc (suc (suc n)))) = 0x10000

from_least : (x n : ℕ) → length (encoding x) ≡ n → least n ≤ x
from_least x n e = rw (sym e) (go (dec_lt x 0x80) (dec_lt x 0x800) (dec_lt x 0x10000))
  where
    go : Dec (x < 0x80) → Dec (x < 0x800) → Dec (x < 0x10000) → least (length (encoding x)) ≤ x
    go (yes a) b c = rw (encoding_1 x a) (omega arith)
    go (no a) (yes b) c = rw (encoding_2 x (omega arith) b) (omega arith)
    go (no a) (no b) (yes c) = rw (encoding_3 x (omega arith) c) (omega arith)
    go (no a) (no b) (no c) = rw (encoding_4 x (omega arith)) (omega arith)

-- the sequences of a block's code points have one length
same_long : (x y : ℕ) → x / block_size ≡ y / block_size → length (encoding x) ≡ length (encoding y)
same_long x y e = go (dec_lt x 0x80) (dec_lt x 0x800) (dec_lt x 0x10000)
  where
    go : Dec (x < 0x80) → Dec (x < 0x800) → Dec (x < 0x10000) → length (encoding x) ≡ length (encoding y)
    go (yes a) b c = rw (encoding_1 x a, encoding_1 y (omega arith))
    go (no a) (yes b) c = rw (encoding_2 x (omega arith) b, encoding_2 y (omega arith) (omega arith))
    go (no a) (no b) (yes c) = rw (encoding_3 x (omega arith) c, encoding_3 y (omega arith) (omega arith))
    go (no a) (no b) (no c) = rw (encoding_4 x (omega arith), encoding_4 y (omega arith))

-- .. and all are scalar values, where one is
same_scalar : (x y : ℕ) → x / block_size ≡ y / block_size → is_scalar x ≡ true → is_scalar y ≡ true
same_scalar x y e s = means_scalar y true (go (scalar_means x true s))
  where
    go : ScalarMeans x true → ScalarMeans y true
    go (below_surrogates h) = below_surrogates (omega arith)
    go (above_surrogates h k) = above_surrogates (omega arith) (omega arith)

-- so it is of the block of a sequence that stands somewhere
pub block_long : (s : List ℕ) (x n block : ℕ) → step_of s ≡ Scalar x n → block ≡ x / block_size → BlockLong block n
block_long s x n block e b j l =
    let q = sequence_of_step s x n e in
    let y = block * block_size + j in
    let z : x / block_size ≡ y / block_size = omega arith in (
      same_scalar x y z (step_bounds s x n e).scalar,
      sym (same_long x y z) ∙ ap (λ (c : ℕ). length (encoding c)) q.code ∙ ap length (sequence_encoding (take n s) q.sequence) ∙ sym q.long,
    )

module _ {index cells text : List ℕ} {at : ℕ} where
  -- what is held of a code point whose bytes stand at a place
  pub found :
      {block j t len : ℕ} (n : ℕ) → len ≡ suc n → HeldAt index cells block j (suc n) t → 1 ≤ n → j < block_size → at + suc n ≤ length text → length (bytes text at n) ≡ suc n
      → block * block_size + j ≡ code_point (bytes text at n) → (least (suc n) ≤ code_point (bytes text at n) → bytes text at n ≡ encoding (code_point (bytes text at n)))
      → FoundAt index cells text at len t
  found {block} {j} n o h k l w z e f =
      let x = code_point (bytes text at n) in
      rw o
      (record {
        small = h.small;
        shown = λ s c p.
            let m = h.long p in
            let u = c.held block j (h.there p) l (omega arith) in
            let v = from_least x (suc n) (ap (λ (y : ℕ). length (encoding y)) (sym e) ∙ sym u.long ∙ m) in
            record {
              code = x;
              stands = stands text at n w (f v) (ap is_scalar (sym e) ∙ u.scalar) ∙ ap (Scalar x) z;
              known = h.same p ∙ u.known ∙ ap (token_traits s) e;
            };
      })
