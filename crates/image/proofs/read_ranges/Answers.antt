-- `image::read_ranges` meets its contract. Assumes nothing.
use Prim.Native.Nat.{ℕ}
use mathlib.Core.Path.{sym, ap, ◌∙◌}
use native.Mathlib.Omega.{arith}
use Rattle.std.specs.Prelude.{Err}
use Rattle.std.proofs.lemmas.Result.{err_from_is_err_and}
use Rattle.lists.specs.Laid.{laid}
use Rattle.lists.specs.Each.{each}
use Rattle.refusal.specs.declared.Refusal.TheVariants as refusal
use Rattle.image.specs.Check.{accepted_with}
use Rattle.image.specs.declared.Checked.{Checked}
use Rattle.image.specs.Ranges.{range_at, range_words}
use Rattle.image.proofs.ImageLaws.{accepted, refused_by, accepted_by}
use Rattle.image.proofs.ReadLaws.{image_refuses, room_refuses, none_refuses, read_by}
use Rattle.image.proofs.read_ranges.Goals as goal

pub returns-in_err-summary : goal.returns-in_err-summary
returns-in_err-summary c =
    let p = err_from_is_err_and c.from_residual.result c.from_residual.ensures.1 in
    let e = refused_by c.args.image.now _ c.judge.ensures _ c.in_err-summary.was in
    let w = read_by c.args.image.now c.args.out.now _ (image_refuses _ c.args.out.now _ e) in
    record { value = rw (p.1, p.2) (sym (ap (λ (x : Checked). x.answer) w.0)); out_after = sym w.1 }

pub returns-then-out-summary : goal.returns-then-out-summary
returns-then-out-summary c =
    let k = accepted_by c.args.image.now _ c.judge.ensures _ _ c.in_ok-summary.was in
    let w = read_by c.args.image.now c.args.out.now _ (room_refuses _ c.args.out.now k.0 (rw k.2 at c.if-out-summary.true)) in
    record { value = ap (λ (n : ℕ). Err (refusal.Room n)) k.2 ∙ sym (ap (λ (x : Checked). x.answer) w.0); out_after = sym w.1 }

pub write_ranges-requires : goal.write_ranges-requires
write_ranges-requires c =
    let k = accepted_by c.args.image.now _ c.judge.ensures _ _ c.in_ok-summary.was in
    let h = (accepted c.args.image.now k.0).header in
    (omega arith, omega arith)

pub returns : goal.returns
returns c =
    let k = accepted_by c.args.image.now _ c.judge.ensures _ _ c.in_ok-summary.was in
    let within_limits = rw k.2 at c.if-out-summary.false in
    let w = read_by c.args.image.now c.args.out.now _ (none_refuses _ c.args.out.now k.0 within_limits) in
    record {
      value = (λ d. accepted_with (k.1 d) (k.2 d)) ∙ sym (ap (λ (x : Checked). x.answer) w.0);
      out_after = c.write_ranges.ensures
          ∙ ap (λ (n : ℕ). laid c.args.out.now 0 (each (λ (i : ℕ). range_words (range_at c.args.image.now i)) n)) k.2
          ∙ sym w.1;
    }
