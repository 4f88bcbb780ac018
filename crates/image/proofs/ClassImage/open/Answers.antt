-- `image::ClassImage::open` meets its contract. Assumes nothing.
use mathlib.Core.Path.{refl}
use Rattle.std.proofs.lemmas.Result.{err_from_is_err_and}
use Rattle.image.proofs.ImageLaws.{refused_by, accepted_by}
use Rattle.image.proofs.ClassImage.open.Goals as goal

pub returns-in_err-_summary : goal.returns-in_err-_summary
returns-in_err-_summary c =
    let p = err_from_is_err_and c.from_residual.result c.from_residual.ensures.1 in
    rw (p.1, p.2, refused_by _ _ c.judge.ensures _ c.in_err-_summary.was) refl

pub invariant_of-result : goal.invariant_of-result
invariant_of-result c = (accepted_by _ _ c.judge.ensures _ _ c.in_ok-_summary.was).0

pub returns : goal.returns
returns c = rw (accepted_by _ _ c.judge.ensures _ _ c.in_ok-_summary.was).0 refl
