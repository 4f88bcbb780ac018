-- Where an image at the front of an input ends, and that no more of the input matters than the programs read. Assumes nothing.
use Prim.Native.Nat.{ℕ, ◌+◌, ◌≤◌, ◌<◌}
use mathlib.Core.Path.{◌≡◌, refl, sym, ◌∙◌}
use mathlib.Core.Bool.{Bool, true, false, true≢false, cond, ◌&&◌}
use mathlib.Core.List.{List, [], ◌∷◌}
use mathlib.Core.Option.{some}
use native.Mathlib.Omega.{arith}
use native.Mathlib.Decide.{dec_le}
use lib.ListN.{length, take, length-drop}
use lib.Seq.{take_all, take-take, length-take-le}
use lib.Dec.{leb}
use borrow.Author.Tests.{le-leb, leb-true}
use Rattle.std.specs.Prelude.{if◌then◌else◌, Some, None, unwrap_or}
use Rattle.lists.proofs.BoolLaws.{split}
use Rattle.refusal.specs.declared.Refusal.TheVariants as refusal
use Rattle.image.specs.Limits.{header_bytes, largest_within, max_image, max_entries}
use Rattle.image.specs.Header.{total_of}
use Rattle.image.specs.Accepted.{SizedWithin}
use Rattle.image.specs.Check.{refusal_within}
use Rattle.image.specs.Means.{bad_length}
use Rattle.image.proofs.ImageLaws.{word_take, means_refusal}
use Rattle.input.specs.Front.{image_in, comes_within, whole_end_within, whole_end, end_within, end_in, front_within, front_in, after_in, WholeWithin, ComesWhole}

-- the test of whether the image comes whole, and where it ends
module _ {limit : ℕ} (input : List ℕ) where
  means_whole : WholeWithin limit input → comes_within limit input ≡ true
  unfolding comes_within
  means_whole w = simp (le-leb _ _ w.header, le-leb _ _ w.long, le-leb _ _ w.short, le-leb _ _ w.comes)

  whole_means : comes_within limit input ≡ true → WholeWithin limit input
  unfolding comes_within
  whole_means e =
      let t = total_of input in
      let tests = leb header_bytes t ∷ leb t (largest_within limit) ∷ leb t (length input) ∷ [] in
      let (a, (b, (c, d))) = split (leb header_bytes (length input)) tests e in
      record { header = leb-true _ _ a; long = leb-true _ _ b; short = leb-true _ _ c; comes = leb-true _ _ d }

  pub dec_whole : Dec (WholeWithin limit input)
  dec_whole = go (comes_within limit input) refl
    where
      go : (b : Bool) → comes_within limit input ≡ b → Dec (WholeWithin limit input)
      go true e = yes (whole_means e)
      go false e = no (λ w. true≢false (sym (means_whole w) ∙ e))

  pub end_whole : WholeWithin limit input → end_within limit input ≡ total_of input
  unfolding end_within
  end_whole w = simp (means_whole w)

  pub end_cut : (WholeWithin limit input → ⊥) → end_within limit input ≡ 0
  unfolding end_within
  end_cut f = go (comes_within limit input) refl
    where
      go : (b : Bool) → comes_within limit input ≡ b → cond b (total_of input) 0 ≡ 0
      go true e = absurd (f (whole_means e))
      go false e = refl

  -- the same of a call
  pub found_whole : WholeWithin limit input → whole_end_within limit input ≡ Some (total_of input)
  found_whole w = simp (means_whole w)

  pub found_cut : (WholeWithin limit input → ⊥) → whole_end_within limit input ≡ None
  found_cut f = go (comes_within limit input) refl
    where
      go : (b : Bool) → comes_within limit input ≡ b → (if b then Some (total_of input) else None) ≡ None
      go true e = absurd (f (whole_means e))
      go false e = refl

  -- an image that doesn't come whole is refused with 1
  pub cut_refused : (WholeWithin limit input → ⊥) → refusal_within limit (front_within limit input) ≡ some refusal.Length
  cut_refused f = rw (end_cut f) (means_refusal {limit = limit} _ (some refusal.Length) (bad_length (λ z. omega (arith, z.long))))

-- the code's two parts of an input
module _ (input : List ℕ) where
  pub found_or_zero : unwrap_or (whole_end input) 0 ≡ end_in input
  unfolding end_within
  found_or_zero = go (comes_within max_entries input)
    where
      go : (b : Bool) → unwrap_or (if b then Some (total_of input) else None) 0 ≡ cond b (total_of input) 0
      go true = refl
      go false = refl

  pub end_within_lem : {end : ℕ} → end ≡ end_in input → (end ≤ length input) × (end ≤ max_image)
  end_within_lem {end} e = rw e (go (dec_whole input))
    where
      go : Dec (ComesWhole input) → (end_in input ≤ length input) × (end_in input ≤ max_image)
      go (yes w) = rw (end_whole input w) (w.comes, w.short)
      go (no f) = rw (end_cut input f) (omega arith, omega arith)

-- an image at the front that has its own total length comes whole
module _ {limit : ℕ} (input : List ℕ) (z : SizedWithin limit (image_in input)) where
  total_comes : Dec (total_of input ≤ length input) → total_of input ≤ length input
  total_comes (yes h) = h
  total_comes (no h) = let e = take_all (total_of input) input (omega arith) in let t = rw e at z.total in omega arith

  pub image_total : length (image_in input) ≡ total_of input
  image_total = length-take-le (total_of input) input (total_comes (dec_le _ _))

  pub sized_whole : WholeWithin limit input
  sized_whole =
      let c = total_comes (dec_le _ _) in
      let l = image_total in
      record { header = omega (arith, z.long); long = omega (arith, z.long); short = omega (arith, z.short); comes = c }

-- the first k bytes of a longer input: the image at the front ends at the same place
module _ (input : List ℕ) (k : ℕ) (enough : max_image ≤ k) (long : k ≤ length input) where
  same_total : total_of (take k input) ≡ total_of input
  same_total = word_take input k 8 (omega arith)

  same_end : end_in (take k input) ≡ end_in input
  unfolding end_within comes_within
  same_end =
      rw (same_total, length-take-le k input long)
      (rw (le-leb header_bytes k (omega arith), le-leb header_bytes (length input) (omega arith)) (go _ refl))
    where
      t : ℕ
      t = total_of input

      go :
          (b : Bool) → leb t max_image ≡ b
          → cond (leb header_bytes t && (b && leb t k)) t 0 ≡ cond (leb header_bytes t && (b && leb t (length input))) t 0
      go true e = let h = leb-true t max_image e in rw (le-leb t k (omega arith), le-leb t (length input) (omega arith))
      go false e = refl

-- what is told of the two parts of an input, and is the same with any two rests of more than `most` bytes, looks no further than
-- one byte more than the largest image and these: the part that is read of an input tells it
module _
    {T : Type 0} (f : List ℕ → List ℕ → T) (most : ℕ)
    (same_long : (front s t : List ℕ) → most < length s → most < length t → f front s ≡ f front t) where
  pub looks_no_further :
      (input : List ℕ) (k : ℕ) → max_image + most < k → (read : List ℕ) → take k input ≡ read
      → f (front_in read) (after_in read) ≡ f (front_in input) (after_in input)
  looks_no_further input k h read e = rw (← e) (go (dec_le k (length input)))
    where
      go : Dec (k ≤ length input) → f (front_in (take k input)) (after_in (take k input)) ≡ f (front_in input) (after_in input)
      go (no l) = rw (take_all k input (omega arith))
      go (yes l) =
          let w = (end_within_lem input refl).1 in
          let m = length-drop (end_in input) (take k input) in
          let n = length-drop (end_in input) input in
          let t = length-take-le k input l in
          rw (same_end input k (omega arith) l, take-take (end_in input) k input (omega arith)) (same_long _ _ _ (omega arith) (omega arith))
