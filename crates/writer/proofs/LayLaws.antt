-- Bytes laid into a buffer after those at its front. Assumes nothing.
use Prim.Native.Nat.{ℕ, ◌+◌, ◌-◌, ◌≤◌}
use mathlib.Core.Path.{◌≡◌, sym, ap, ◌∙◌}
use mathlib.Core.List.{List, ◌++◌}
use native.Mathlib.Omega.{arith}
use lib.ListN.{length, take, drop}
use borrow.Rule.Slice.PartMut.{put_mid}
use Rattle.lists.specs.Laid.{laid}
use Rattle.lists.proofs.LaidLaws.{laid_step, length-laid, lent}

-- `a` was laid at the front, and then `b` after it, through the part from there on
pub joined :
    (out a b x ys : List ℕ) (at : ℕ) → length a ≡ at → at + length b ≤ length out → x ≡ laid out 0 a
    → ys ≡ laid (take (length x - at) (drop at x)) 0 b → put_mid at (length x - at) x ys ≡ laid out 0 (a ++ b)
joined out a b x ys at l fits e y =
    let f : 0 + length a ≤ length out = omega arith in
    let z : at ≡ 0 + length a = omega arith in
    let n = length-laid out a 0 f in
    let m : length x ≡ length out = ap length e ∙ n in
    lent x b at (omega arith) ys y
    ∙ ap (λ (t : List ℕ). laid t at b) e
    ∙ ap (λ (k : ℕ). laid (laid out 0 a) k b) z
    ∙ sym (laid_step out a 0 f b)
