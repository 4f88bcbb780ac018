-- `writer::write_arrays` meets its contract. Assumes nothing.
use mathlib.Core.Path.{sym, ◌∙◌}
use native.Mathlib.Omega.{arith}
use Rattle.std.proofs.lemmas.Result.{err_from_is_err_and}
use Rattle.image.specs.Profile.{profile_by}
use Rattle.writer.proofs.WriteLaws.{write_kept, written_means}
use Rattle.writer.proofs.write_arrays.Goals as goal

pub returns-in_err-len : goal.returns-in_err-len
returns-in_err-len c =
    let p = profile_by c.args.points.now c.args.roles.now c.args.used in
    let q = err_from_is_err_and c.from_residual.result c.from_residual.ensures.1 in
    let e = sym c.judge_parts.ensures ∙ c.in_err-len.was in
    (rw (q.1, q.2) (sym e), sym (write_kept c.args.version c.args.words.now p c.args.out.now _ e))

pub invariant_of-entries : goal.invariant_of-entries
invariant_of-entries c =
    let p = profile_by c.args.points.now c.args.roles.now c.args.used in
    let k = written_means c.args.version c.args.words.now p c.args.out.now _ (sym c.judge_parts.ensures ∙ c.in_ok-len.was) in
    record { few = k.0.counted.few_entries }

pub put_image-requires : goal.put_image-requires
put_image-requires c =
    let p = profile_by c.args.points.now c.args.roles.now c.args.used in
    let k = written_means c.args.version c.args.words.now p c.args.out.now _ (sym c.judge_parts.ensures ∙ c.in_ok-len.was) in
    (k.0.counted.shaped, k.0.counted.few_ranges, omega arith)

pub returns : goal.returns
returns c =
    let p = profile_by c.args.points.now c.args.roles.now c.args.used in
    let e = sym c.judge_parts.ensures ∙ c.in_ok-len.was in
    let k = written_means c.args.version c.args.words.now p c.args.out.now _ e in
    (sym e, c.put_image.ensures ∙ sym k.3)
