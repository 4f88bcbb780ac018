-- Values laid into a lent buffer, step by step, and through a lent part of it. Assumes nothing.
use mathlib.Core.Path.{◌≡◌, sym, ap, ◌∙◌}
use mathlib.Core.List.{List, [], ◌++◌, append_assoc, append-nil}
use Prim.Native.Nat.{ℕ, ◌+◌, ◌-◌, ◌≤◌}
use native.Mathlib.Nat.{add-zero, add_assoc}
use native.Mathlib.Omega.{arith}
use lib.ListN.{length, take, drop, length-append, length-take, length-drop, take-append-drop, drop_of_length-le}
use lib.Seq.{take_all, take_at, drop_at, drop-drop}
use borrow.Rule.Slice.PartMut.{put_mid}
use Rattle.lists.specs.Laid.{laid}

-- nothing laid changes nothing
pub laid_none : (out : List ℕ) (at : ℕ) → laid out at [] ≡ out
laid_none out at = rw (add-zero, append-nil, take-append-drop)

-- the part `&s[a..]` is the list from a on
pub rest : (s : List ℕ) (a : ℕ) → take (length s - a) (drop a s) ≡ drop a s
rest s a = let l = length-drop a s in take_all (length s - a) (drop a s) (omega arith)

module _ (out ws : List ℕ) (at : ℕ) (fits : at + length ws ≤ length out) where
  pub length-laid : length (laid out at ws) ≡ length out
  length-laid = simp (length-append, length-take, length-drop) (omega arith)

  head : length (take at out ++ ws) ≡ at + length ws
  head = simp (length-append, length-take) (omega arith)

  -- first these values, then more after them
  pub laid_step : (more : List ℕ) → laid out at (ws ++ more) ≡ laid (laid out at ws) (at + length ws) more
  laid_step more =
      let d = drop (at + length ws) out in
      let x : List ℕ = laid out at ws in
      let t : take (at + length ws) x ≡ take at out ++ ws = take_at (take at out ++ ws) d (at + length ws) head in
      let u : drop (at + length ws + length more) x ≡ drop (at + length ws + length more) out =
      sym (drop-drop (length more) (at + length ws) x)
      ∙ ap (drop (length more)) (drop_at (take at out ++ ws) d (at + length ws) head)
      ∙ drop-drop (length more) (at + length ws) out in
      rw (t, u, length-append, ← add_assoc, ← append_assoc)

  -- a call was lent the part `&mut out[at..]`, and wrote the values at that part's front
  pub lent : (ys : List ℕ) → ys ≡ laid (take (length out - at) (drop at out)) 0 ws → put_mid at (length out - at) out ys ≡ laid out at ws
  lent ys e =
      let n : length (drop at out) ≤ length out - at = rw length-drop (omega arith) in
      let z : 0 + length ws ≡ length ws = omega arith in
      rw (drop_of_length-le (drop at out) n, append-nil, e, take_all (length out - at) (drop at out) n, z, drop-drop)
      (sym (append_assoc (take at out) ws (drop (at + length ws) out)))
