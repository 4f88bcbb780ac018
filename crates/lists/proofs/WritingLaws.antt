-- Loops that write records of w values each into a lent buffer, one record at a time. Assumes nothing.
use Prim.Native.Nat.{ℕ, ◌+◌, ◌-◌, ◌*◌, ◌≤◌, ◌<◌}
use mathlib.Core.Path.{◌≡◌, refl, sym, ap, ◌∙◌}
use mathlib.Core.List.{List}
use native.Mathlib.Numerals.{add-one}
use native.Mathlib.Nat.{mul-suc, mul-zero, mul-le-mul_left}
use native.Mathlib.Omega.{arith}
use lib.ListN.{length, take, drop}
use borrow.Rule.Slice.PartMut.{put_mid}
use Rattle.lists.specs.Laid.{laid}
use Rattle.lists.specs.Each.{each_from, each}
use Rattle.lists.specs.Writing.{Writing}
use Rattle.lists.proofs.LaidLaws.{laid_none, laid_step, length-laid, lent}
use Rattle.lists.proofs.EachLaws.{each_next, each_end, each_begins}

module _ {f : ℕ → List ℕ} {w n : ℕ} {before : List ℕ} where
  pub writing_begins : Writing f w n before before 0
  writing_begins =
      record { within = omega arith; size = refl; same = rw (mul-zero w, each_begins f n) }

  module _ {out : List ℕ} {i : ℕ} (h : Writing f w n before out i) where
    pub writing_ends : n ≤ i → out ≡ laid before 0 (each f n)
    writing_ends l = sym (laid_none out (w * i)) ∙ ap (laid out (w * i)) (sym (each_end f n i l)) ∙ h.same

    module _ (long : length (f i) ≡ w) (room : w * n ≤ length before) (l : i < n) where
      next : w * (i + 1) ≡ w * i + w
      next = ap (λ (k : ℕ). w * k) (add-one i) ∙ mul-suc w i

      record_fits : w * i + length (f i) ≤ length out
      record_fits =
          let k : w * (i + 1) ≤ w * n = mul-le-mul_left w (omega arith) in
          let e = next in
          let z = h.size in
          omega arith

      writing_next : (after : List ℕ) → after ≡ laid out (w * i) (f i) → Writing f w n before after (i + 1)
      writing_next after e =
          let r = each_from f (n - (i + 1)) (i + 1) in
          let k : w * (i + 1) ≡ w * i + length (f i) = next ∙ ap (λ (x : ℕ). w * i + x) (sym long) in
          record {
            within = omega arith;
            size = ap length e ∙ length-laid out (f i) (w * i) record_fits ∙ h.size;
            same =
                (λ d. laid (e d) (k d) r)
                ∙ sym (laid_step out (f i) (w * i) record_fits r)
                ∙ ap (laid out (w * i)) (sym (each_next f n i l))
                ∙ h.same;
          }

      -- the same of a call that was lent the part `&mut out[w * i..]`, and wrote the record at that part's front
      pub writing_lent :
          (ys : List ℕ) → ys ≡ laid (take (length out - w * i) (drop (w * i) out)) 0 (f i)
          → Writing f w n before (put_mid (w * i) (length out - w * i) out ys) (i + 1)
      writing_lent ys e = writing_next _ (lent out (f i) (w * i) record_fits ys e)
