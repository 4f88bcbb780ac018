-- The bytes that the answer array tells of are the part's, none where it is refused. Assumes nothing.
use Prim.Native.Nat.{ℕ}
use mathlib.Core.Path.{◌≡◌, refl, sym, ap, ◌∙◌}
use mathlib.Core.List.{List, ◌++◌}
use lib.ListN.{length, take}
use lib.Seq.{take-append_seam, drop-append_seam}
use Rattle.refusal.specs.Outcome.{Outcome}
use Rattle.part.specs.Part.{part_of, bytes_by, part_bytes, PartMeans, misplaced, part}
use Rattle.part.proofs.PartLaws.{part_means}
use Rattle.reply.specs.TokenReply.{part_reply, told_part}

module _ (text : List ℕ) (start end : ℕ) where
  pub part_told : (o : Outcome (List ℕ)) → o ≡ part_of text start end → (a : List ℕ) → a ≡ (part_reply o start).values → told_part text a ≡ part_bytes text start end
  part_told o e a v = ap (told_part text) v ∙ go o (part_means text start end o (sym e)) ∙ ap bytes_by e
    where
      go : (o : Outcome (List ℕ)) → PartMeans text start end o → told_part text (part_reply o start).values ≡ bytes_by o
      go o (misplaced h) = refl
      go o (part before bytes after t s m) = rw (t, s) (ap (take (length bytes)) (drop-append_seam before (bytes ++ after)) ∙ take-append_seam bytes after)
