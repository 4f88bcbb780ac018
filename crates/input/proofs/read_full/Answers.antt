-- `input::read_full` meets its contract: what a read gave stands right after what was read before. Assumes nothing.
use Rattle.std.proofs.Common.{◌≡◌, ℕ, ◌+◌, ◌≤◌, List, ◌++◌, rules, length, take, drop, sym, ap, ◌∙◌, subst, drop_at, length-take-le, take-add}
use Rattle.std.specs.Io.KnownBytes.{Consumes}
use Rattle.std.proofs.KnownBytes.{Consumes-trans}
use borrow.Rule.Slice.PartMut.{put_mid, post_of, take_put}
use lib.Seq.{take-append-le}
use Rattle.input.proofs.read_full.Goals as goal

take_grown : (n more k : ℕ) (xs ys : List ℕ) → n ≤ length xs → more ≤ length ys → take n xs ++ take more ys ≡ take (n + more) (put_mid n k xs ys)
take_grown n more k xs ys within fits =
    let rest = post_of n k xs in
    let after = ap (take more) (drop_at (take n xs) (ys ++ rest) n (length-take-le n xs within)) ∙ take-append-le more ys rest fits in
    let whole = put_mid n k xs ys in
    sym (take-add n more whole ∙ ap (λ l. l ++ take more (drop n whole)) (take_put n k xs ys within) ∙ ap (λ l. take n xs ++ l) after)

pub loop-n-preserved : goal.loop-n-preserved
loop-n-preserved g c =
    let before = c.loop-n.invariant in
    let read = c.in_ok-more.ensures in
    (search rules, subst (Consumes _ _) (take_grown _ _ _ _ _ before.0 read.bound.0) (Consumes-trans _ _ _ _ _ before.1 read.bytes.0))
