-- The characters of a text: step by step, what they mean, and where the text splits.
-- Assumes nothing.
use Prim.Native.Nat.{ℕ, zero, suc, ◌+◌, ◌*◌, ◌/◌, ◌%◌, ◌≤◌, ◌<◌}
use mathlib.Core.Path.{◌≡◌, refl, sym, ap, subst, ◌∙◌}
use mathlib.Core.Bool.{true, false}
use mathlib.Core.List.{List, [], ◌∷◌, ◌++◌}
use native.Mathlib.Nat.{add_assoc, zero-add}
use native.Mathlib.Omega.{arith}
use lib.ListN.{length, take, drop, get_or, length-append, length-take, length-drop, take-append-drop, drop_of_length-le}
use lib.Seq.{drop-drop, drop-append_seam, get_or-drop, get_or-take}
use Rattle.lists.proofs.BoolLaws.{impossible}
use Rattle.utf8.specs.declared.Step.{Step}
use Rattle.utf8.specs.declared.Step.TheVariants.{Scalar, IllFormed, End}
use Rattle.std.specs.Prelude.{Ok, Err}
use Rattle.utf8.specs.Scalar.{is_scalar}
use Rattle.utf8.specs.Subpart.{subpart_of, MaximalSubpart}
use Rattle.utf8.specs.Head.{step_of, IllHead, NoSequence, StepMeans, sequence, no_sequence, empty}
use Rattle.utf8.specs.Lead.{packed, length_of, known_length, is_trail}
use Rattle.utf8.specs.Text.{
  Form,
  ill,
  Character,
  Decoded,
  ended,
  before,
  decode_by,
  decode_in,
  decode,
  width_of,
  text_by,
  text_of,
  shift,
  characters_at,
  character_of,
  Encoded,
  ends,
  takes,
  TextMeans,
  well_formed,
  ill_formed,
}
use Rattle.utf8.proofs.ScalarLaws.{scalar_le}
use Rattle.utf8.proofs.LeadLaws.{ascii}
use Rattle.utf8.proofs.SubpartLaws.{subpart_means, means_subpart}
use Rattle.utf8.proofs.EncodedLaws.{Covers, AllScalar, encoded_scalar, AllWide, encoded_wide, encoded_few, encoded_covers, encoded_before, encoded_stops}
use Rattle.utf8.proofs.SequenceLaws.{
  sequence_of_step,
  step_of_sequence,
  sequence_length,
  sequence_scalar,
  ill_at,
  no_sequence_at,
  step_means,
  sequence_right,
  end_empty,
  ill_not_empty,
  none_empty,
  SubpartBounds,
  subpart_bounds,
}

-- a sequence has one to four bytes, all within the text, and stands for a scalar value
pub record StepBounds (s : List ℕ) (x n : ℕ) : Type 0 where
  pub some_bytes : 0 < n
  pub short : n ≤ 4
  pub within : n ≤ length s
  pub scalar : is_scalar x ≡ true

pub step_bounds : (s : List ℕ) (x n : ℕ) → step_of s ≡ Scalar x n → StepBounds s x n
step_bounds s x n e =
    let f = sequence_of_step s x n e in
    let l = sequence_length (take n s) f.sequence in
    let m = f.long in
    let c = simp length-take at m in
    record { some_bytes = omega arith; short = omega arith; within = omega arith; scalar = ap is_scalar f.code ∙ sequence_scalar (take n s) f.sequence }

-- what the bytes of a sequence tell
pub record FirstByte (s : List ℕ) (x n : ℕ) : Type 0 where
  pub long : n ≡ known_length (get_or s 0 0)
  pub ascii : x < 0x80 → get_or s 0 0 ≡ x
  pub two : 0x80 ≤ x → x < 0x800 → get_or s 0 0 ≡ 0xC0 + x / 0x40
  pub three : 0x800 ≤ x → x < 0x10000 → get_or s 0 0 ≡ 0xE0 + x / 0x1000
  pub first : is_trail (get_or s 0 0) ≡ false
  pub others : (i : ℕ) → 0 < i → i < n → is_trail (get_or s i 0) ≡ true

pub first_byte : (s : List ℕ) (x n : ℕ) → step_of s ≡ Scalar x n → FirstByte s x n
first_byte s x n e =
    let f = sequence_of_step s x n e in
    let r = sequence_right (take n s) f.sequence in
    let c = f.code in
    let b : get_or (take n s) 0 0 ≡ get_or s 0 0 = get_or-take n s 0 0 (step_bounds s x n e).some_bytes in
    record {
      long = f.long ∙ r.long ∙ ap known_length b;
      ascii = λ h. sym b ∙ r.ascii (omega arith) ∙ sym c;
      two = λ h l. sym b ∙ r.two (omega arith) (omega arith) ∙ ap (λ (k : ℕ). 0xC0 + k / 0x40) (sym c);
      three = λ h l. sym b ∙ r.three (omega arith) (omega arith) ∙ ap (λ (k : ℕ). 0xE0 + k / 0x1000) (sym c);
      first = ap is_trail (sym b) ∙ r.first;
      others = λ i h l. ap is_trail (sym (get_or-take n s i 0 l)) ∙ r.others i h (let m = f.long in omega arith);
    }

-- what a packed sequence tells: the length is its last octal digit, the code point the others
pub record Unpacked (s : List ℕ) (d : ℕ) : Type 0 where
  pub none : d % 8 ≡ 0 → IllHead s
  pub some : 0 < d % 8 → step_of s ≡ Scalar (d / 8) (d % 8)
  pub small : d / 8 ≤ 0x10FFFF

unpacked_by : (s : List ℕ) (t : Step) → step_of s ≡ t → 0 < length s → Unpacked s (packed t)
unpacked_by s (Scalar x n) e h =
    let t = step_bounds s x n e in
    let l : (x * 8 + n) % 8 ≡ n = omega (arith, t.short) in
    let c : (x * 8 + n) / 8 ≡ x = omega (arith, t.short) in
    record {
      none = λ z. absurd (omega (arith, t.some_bytes));
      some = λ z. e ∙ (λ i. Scalar (sym c i) (sym l i));
      small = omega (arith, scalar_le x t.scalar);
    }
unpacked_by s (IllFormed n) e h = record { none = λ z. ill_at s n e; some = λ z. absurd (omega arith); small = omega arith }
unpacked_by s End e h = let l = ap length (end_empty s e) in absurd (omega arith)

pub unpacked : (s : List ℕ) (d : ℕ) → d ≡ packed (step_of s) → 0 < length s → Unpacked s d
unpacked s d e h = subst (λ (k : ℕ). Unpacked s k) (sym e) (unpacked_by s (step_of s) refl h)

none_end : (s : List ℕ) → step_of s ≡ End → NoSequence s
none_end s e = none_empty s (end_empty s e)

-- a step is one sequence more
encoded_step :
    (s : List ℕ) (x n : ℕ) {cs : List Character} {r : List ℕ} → step_of s ≡ Scalar x n → Encoded (drop n s) cs r
    → Encoded s (record { code = x; width = n } ∷ cs) r
encoded_step s x n {cs} {r} e d =
    let f = sequence_of_step s x n e in
    let c : character_of (take n s) ≡ record { code = x; width = n } = (λ i. record { code = sym f.code i; width = sym f.long i }) in
    subst (λ (y : Character). Encoded s (y ∷ cs) r) c (takes (take n s) (drop n s) (sym (take-append-drop n s)) f.sequence d)

-- what decoding means: well-formed sequences one after the other, up to where none begins
decode_in_lem : (k : ℕ) (s : List ℕ) → length s ≤ k → Encoded s (decode_in k s).characters (decode_in k s).rest
unfolding decode_in
decode_in_lem zero [] h = ends (none_empty [] refl)
decode_in_lem zero (b ∷ s) h = absurd (omega arith)
decode_in_lem (suc k) s h = go (step_of s) refl (decode_in_lem k)
  where
    go : (t : Step) → step_of s ≡ t → ((u : List ℕ) → length u ≤ k → Encoded u (decode_in k u).characters (decode_in k u).rest) →
        Encoded s (decode_by (decode_in k) s t).characters (decode_by (decode_in k) s t).rest
    go (Scalar x n) e f =
        let b = step_bounds s x n e in
        let l = length-drop n s in
        encoded_step s x n e (f (drop n s) (omega arith))
    go (IllFormed n) e f = ends (no_sequence_at s (ill_at s n e))
    go End e f = ends (none_end s e)

pub decode_means : (s : List ℕ) → Encoded s (decode s).characters (decode s).rest
unfolding decode
decode_means s = decode_in_lem (length s) s (omega arith)

-- .. and there is no other reading
in_decode : {s r : List ℕ} {cs : List Character} (k : ℕ) → length s ≤ k → Encoded s cs r → decode_in k s ≡ record { characters = cs; rest = r }
unfolding decode_in
in_decode zero h (ends n) = refl
in_decode {s} (suc k) h (ends n) = go (step_of s) (step_means s (step_of s) refl)
  where
    go : (t : Step) → StepMeans s t → decode_by (decode_in k) s t ≡ ended s
    go t (sequence q r p f c l) = absurd (n q r p f)
    go t (no_sequence l m x) = refl
    go t (empty e) = refl
in_decode {s} zero h (takes q r e f d) =
    let l = ap length e ∙ length-append q r in
    absurd (omega (arith, (sequence_length q f).0))
in_decode {s} (suc k) h (takes q r e f d) =
    let l = ap length e ∙ length-append q r in
    ap (decode_by (decode_in k) s) (ap step_of e ∙ step_of_sequence q r f)
    ∙ ap (λ (u : List ℕ). before (character_of q) (decode_in k u)) (ap (drop (length q)) e ∙ drop-append_seam q r)
    ∙ ap (before (character_of q)) (in_decode {s = r} k (omega (arith, (sequence_length q f).0)) d)

pub means_decode : {s r : List ℕ} {cs : List Character} → Encoded s cs r → decode s ≡ record { characters = cs; rest = r }
unfolding decode
means_decode {s} d = in_decode (length s) (omega arith) d

pub decode_scalar : (s : List ℕ) (x n : ℕ) → step_of s ≡ Scalar x n → decode s ≡ before (record { code = x; width = n }) (decode (drop n s))
decode_scalar s x n e = means_decode (encoded_step s x n e (decode_means (drop n s)))

pub decode_ill : (s : List ℕ) → IllHead s → decode s ≡ ended s
decode_ill s e = means_decode (ends (no_sequence_at s e))

pub decode_end : (s : List ℕ) → step_of s ≡ End → decode s ≡ ended s
decode_end s e = means_decode (ends (none_end s e))

pub decode_empty : decode [] ≡ ended []
decode_empty = means_decode (ends (none_empty [] refl))

-- so of the characters of a text: they are scalar values, have bytes, are no more than bytes, and cover it up to the rest
pub characters_scalar : (s : List ℕ) → AllScalar (decode s).characters
characters_scalar s = encoded_scalar (decode_means s)

pub characters_wide : (s : List ℕ) → AllWide (decode s).characters
characters_wide s = encoded_wide (decode_means s)

pub characters_few : (s : List ℕ) → length (decode s).characters ≤ length s
characters_few s = encoded_few (decode_means s)

pub decode_covers : (s : List ℕ) → Covers s (width_of (decode s).characters) (decode s).rest
decode_covers s = encoded_covers (decode_means s)

-- the text up to its first ill-formed place is well-formed, with the same characters
pub decode_before_ill : (s : List ℕ) → decode (take (width_of (decode s).characters) s) ≡ record { characters = (decode s).characters; rest = [] }
decode_before_ill s = means_decode (encoded_before (decode_means s))

-- what the answer of the check of a text means
pub text_means : (s : List ℕ) (t : Form) → text_of s ≡ t → TextMeans s t
unfolding text_of
text_means s t e = subst (TextMeans s) e (go (decode s).rest (decode_means s))
  where
    go : (r : List ℕ) → Encoded s (decode s).characters r → TextMeans s (text_by (width_of (decode s).characters) r)
    go [] d = well_formed d
    go (b ∷ r) d = ill_formed d (omega arith) refl (subpart_means (b ∷ r) (omega arith))

-- and back: where it is so, that is the answer
pub means_text : (s : List ℕ) (t : Form) → TextMeans s t → text_of s ≡ t
unfolding text_of
means_text s t (well_formed d) = rw (means_decode d)
means_text s t (ill_formed {p} {n} {cs} {rest} d l e m) = rw (means_decode d) (go rest l m)
  where
    go : (r : List ℕ) → 0 < length r → MaximalSubpart r n → text_by (width_of cs) r ≡ ill p n
    go [] l m = absurd (omega arith)
    go (b ∷ r) l m = (λ i. ill (sym e i) (means_subpart (b ∷ r) n l m i))

-- the same of what decoding leaves
pub well_rest : (s : List ℕ) → text_of s ≡ Ok tt → (decode s).rest ≡ []
well_rest s e = go (text_means s (Ok tt) e)
  where
    go : TextMeans s (Ok tt) → (decode s).rest ≡ []
    go (well_formed d) = ap (λ (c : Decoded). c.rest) (means_decode d)

pub rest_well : (s : List ℕ) → (decode s).rest ≡ [] → text_of s ≡ Ok tt
rest_well s e = means_text s (Ok tt) (well_formed (subst (λ (r : List ℕ). Encoded s (decode s).characters r) e (decode_means s)))

pub record IllRest (s : List ℕ) (p n : ℕ) : Type 0 where
  pub place : p ≡ width_of (decode s).characters
  pub subpart : SubpartBounds (decode s).rest n

pub ill_rest : (s : List ℕ) (p n : ℕ) → text_of s ≡ ill p n → IllRest s p n
ill_rest s p n e = go (text_means s (ill p n) e)
  where
    go : TextMeans s (ill p n) → IllRest s p n
    go (ill_formed d l q m) =
        record { place = rw (means_decode d) q; subpart = rw (means_decode d) (subpart_bounds l (encoded_stops d) m) }

-- an ill-formed place is within the text, and so is the maximal subpart, which has one to three bytes
pub record IllWithin (s : List ℕ) (p n : ℕ) : Type 0 where
  pub some_bytes : 1 ≤ n
  pub short : n ≤ 3
  pub within : p + n ≤ length s

pub ill_within : (s : List ℕ) (p n : ℕ) → text_of s ≡ ill p n → IllWithin s p n
ill_within s p n e =
    let r = ill_rest s p n e in
    let c = decode_covers s in
    let l = length-drop (width_of (decode s).characters) s in
    let m = ap length c.after in
    let b = r.subpart in
    record { some_bytes = b.some_bytes; short = b.short; within = omega (arith, c.within) }

-- by the step at the head
pub text_ill : (s : List ℕ) → IllHead s → text_of s ≡ ill 0 (subpart_of s)
text_ill s e =
    let l = ill_not_empty s e in
    means_text s (ill 0 (subpart_of s)) (ill_formed (ends (no_sequence_at s e)) l refl (subpart_means s l))

-- at the head of a well-formed text stands a sequence, and its first byte tells its length
pub known_length_lem : (s : List ℕ) → 0 < length s → text_of s ≡ Ok tt → known_length (get_or s 0 0) ≡ length_of (step_of s)
known_length_lem s h w = go (step_of s) refl
  where
    go : (t : Step) → step_of s ≡ t → known_length (get_or s 0 0) ≡ length_of t
    go (Scalar x n) e = sym (first_byte s x n e).long
    go (IllFormed n) e = impossible (cc (text_ill s (ill_at s n e)))
    go End e = absurd (omega (arith, ap length (end_empty s e)))

pub text_end : (s : List ℕ) → s ≡ [] → text_of s ≡ Ok tt
text_end s e = rest_well s (ap (λ (c : Decoded). c.rest) (means_decode (ends (none_empty s e))) ∙ e)

shift_by : (k p : ℕ) (r : List ℕ) → text_by (k + p) r ≡ shift k (text_by p r)
shift_by k p [] = refl
shift_by k p (b ∷ r) = refl

pub shift_zero : (t : Form) → shift 0 t ≡ t
shift_zero (Ok u) = refl
shift_zero (Err e) = ap (λ (q : ℕ). ill q e.len) (let z : 0 + e.place ≡ e.place = omega arith in z)

pub shift_shift : (j k : ℕ) (t : Form) → shift j (shift k t) ≡ shift (j + k) t
shift_shift j k (Ok u) = refl
shift_shift j k (Err e) = ap (λ (q : ℕ). ill q e.len) (sym (add_assoc j k e.place))

pub text_scalar : (s : List ℕ) (x n : ℕ) → step_of s ≡ Scalar x n → text_of s ≡ shift n (text_of (drop n s))
unfolding text_of
text_scalar s x n e = rw (decode_scalar s x n e) (shift_by n (width_of (decode (drop n s)).characters) (decode (drop n s)).rest)

-- the first ill-formed place, at a place that is reached: past the sequence there, or there, or none
pub record Turn (s : List ℕ) (at n : ℕ) : Type 0 where
  pub some_bytes : 0 < n
  pub within : at + n ≤ length s
  pub same : shift at (text_of (drop at s)) ≡ shift (at + n) (text_of (drop (at + n) s))

pub turn : (s : List ℕ) (at x n : ℕ) → at ≤ length s → step_of (drop at s) ≡ Scalar x n → Turn s at n
turn s at x n h e =
    let t = step_bounds (drop at s) x n e in
    let l = length-drop at s in
    record {
      some_bytes = t.some_bytes;
      within = omega arith;
      same =
          ap (shift at) (text_scalar (drop at s) x n e ∙ ap (λ (u : List ℕ). shift n (text_of u)) (drop-drop n at s))
          ∙ shift_shift at n (text_of (drop (at + n) s));
    }

-- the first byte from a place on
pub first_at : (s : List ℕ) (at : ℕ) → get_or (drop at s) 0 0 ≡ get_or s at 0
first_at s at = get_or-drop at s 0 0 ∙ ap (λ (k : ℕ). get_or s k 0) (let q : at + 0 ≡ at = omega arith in q)

-- a byte below 80 is its own code point
pub ascii_at : (s : List ℕ) (at : ℕ) → at < length s → get_or s at 0 < 0x80 → step_of (drop at s) ≡ Scalar (get_or s at 0) 1
ascii_at s at h b =
    let l = length-drop at s in
    let z = first_at s at in
    sym (ascii (drop at s) (omega arith) (omega arith)) ∙ ap (λ (x : ℕ). Scalar x 1) z

pub ascii_turn : (s : List ℕ) (at : ℕ) → at < length s → get_or s at 0 < 0x80 → Turn s at 1
ascii_turn s at h b = turn s at (get_or s at 0) 1 (omega arith) (ascii_at s at h b)

pub ill_here : (s : List ℕ) (at : ℕ) → IllHead (drop at s) → shift at (text_of (drop at s)) ≡ ill at (subpart_of (drop at s))
ill_here s at e =
    ap (shift at) (text_ill (drop at s) e)
    ∙ ap (λ (p : ℕ). ill p (subpart_of (drop at s))) (let z : at + 0 ≡ at = omega arith in z)

pub end_here : (s : List ℕ) (at : ℕ) → length s ≤ at → shift at (text_of (drop at s)) ≡ Ok tt
end_here s at h = ap (shift at) (text_end (drop at s) (drop_of_length-le s h))

-- the characters from a place on: past the sequence there, or none
pub characters_step :
    (s : List ℕ) (at x n : ℕ) → step_of (drop at s) ≡ Scalar x n
    → characters_at s at ≡ record { code = x; width = n } ∷ characters_at s (at + n)
characters_step s at x n e =
    ap (λ (d : Decoded). d.characters) (decode_scalar (drop at s) x n e)
    ∙ ap (λ (u : List ℕ). record { code = x; width = n } ∷ (decode u).characters) (drop-drop n at s)

pub characters_ill : (s : List ℕ) (at : ℕ) → IllHead (drop at s) → characters_at s at ≡ []
characters_ill s at e = ap (λ (d : Decoded). d.characters) (decode_ill (drop at s) e)

pub characters_end : (s : List ℕ) (at : ℕ) → length s ≤ at → characters_at s at ≡ []
characters_end s at h = ap (λ (u : List ℕ). (decode u).characters) (drop_of_length-le s h) ∙ ap (λ (d : Decoded). d.characters) decode_empty

-- the bytes of characters, and of more
pub width_append : (u v : List Character) → width_of (u ++ v) ≡ width_of u + width_of v
width_append [] v = sym (zero-add (width_of v))
width_append (c ∷ u) v = rw (width_append u v, add_assoc c.width (width_of u) (width_of v))
