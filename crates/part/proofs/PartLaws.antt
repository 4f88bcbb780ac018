-- A part of a text, exactly when it is refused and which bytes it is. Assumes nothing.
use Prim.Native.Nat.{ℕ, ◌-◌, ◌≤◌, ◌<◌}
use mathlib.Core.Path.{◌≡◌, refl, sym, ap, subst, ◌∙◌}
use mathlib.Core.Bool.{Bool, true, false}
use mathlib.Core.List.{List, ◌++◌}
use mathlib.Core.Logic.{inl, inr}
use native.Mathlib.Omega.{arith}
use native.Mathlib.Decide.{dec_lt}
use lib.Dec.{ltb}
use lib.ListN.{length, take, drop, length-append, length-drop, take-append-drop}
use lib.Seq.{length-take-le, take-append_seam, drop-append_seam}
use borrow.Author.Tests.{lt-ltb, le-ltb}
use Rattle.std.specs.Prelude.{Option, Some, None}
use Rattle.std.specs.Borrow.{Bor}
use Rattle.std.specs.Option.{ok_or}
use Rattle.std.specs.Slice.{IsGetRangeResult}
use Rattle.refusal.specs.declared.Refusal.TheVariants as refusal
use Rattle.refusal.specs.Outcome.{Outcome, given, refused, unless, refused_if}
use Rattle.part.specs.Part.{part_of, outcome_by, PartMeans, misplaced, part}

module _ (text : List ℕ) (start end : ℕ) where
  pub means_part : (o : Outcome (List ℕ)) → PartMeans text start end o → part_of text start end ≡ o
  unfolding part_of
  means_part o (misplaced (inl h)) = simp (lt-ltb end start h)
  means_part o (misplaced (inr h)) = simp (lt-ltb (length text) end h) (go (ltb end start))
    where
      go : (b : Bool) → unless {T = List ℕ} (refused_if b refusal.Shape) (refused refusal.Shape) ≡ refused refusal.Shape
      go true = refl
      go false = refl
  means_part o (part before bytes after e s n) =
      let l = ap length e ∙ length-append before (bytes ++ after) in
      let k = length-append bytes after in
      let w : end - start ≡ length bytes = omega arith in
      simp (le-ltb end start (omega arith), le-ltb (length text) end (omega arith))
      (ap given (rw (w, e, s) (ap (take (length bytes)) (drop-append_seam before (bytes ++ after)) ∙ take-append_seam bytes after)))

  pub part_means : (o : Outcome (List ℕ)) → part_of text start end ≡ o → PartMeans text start end o
  part_means o e = go (dec_lt end start) (dec_lt (length text) end)
    where
      told : (a : Outcome (List ℕ)) → PartMeans text start end a → PartMeans text start end o
      told a m = subst (PartMeans text start end) (sym (means_part a m) ∙ e) m

      go : Dec (end < start) → Dec (length text < end) → PartMeans text start end o
      go (yes h) k = told (refused refusal.Shape) (misplaced (inl h))
      go (no h) (yes k) = told (refused refusal.Shape) (misplaced (inr k))
      go (no h) (no k) =
          let rest = drop start text in
          let l = length-drop start text in
          let p = length-take-le start text (omega arith) in
          let w = length-take-le (end - start) rest (omega arith) in
          told (given (take (end - start) rest))
          (part (take start text) (take (end - start) rest) (drop (end - start) rest) (sym (ap (λ (u : List ℕ). take start text ++ u) (take-append-drop (end - start) rest) ∙ take-append-drop start text)) (omega arith) (omega arith))

  -- the part that lies in the text
  pub part_inside : start ≤ end → end ≤ length text → part_of text start end ≡ given (take (end - start) (drop start text))
  unfolding part_of
  part_inside h k = simp (le-ltb end start h, le-ltb (length text) end k)

  -- what `get` of the range gives, with this refusal where it gives none
  pub got_part :
      (o : Option (Bor (List ℕ))) → IsGetRangeResult text start end o → outcome_by (ok_or o refusal.Shape) ≡ part_of text start end
  got_part None g = sym (means_part _ (misplaced g.0))
  got_part (Some b) g = ap given g.0.2 ∙ sym (part_inside g.0.0 g.0.1)
