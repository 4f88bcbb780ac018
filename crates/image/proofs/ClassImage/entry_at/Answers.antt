-- `image::ClassImage::entry_at` meets its contract. Assumes nothing.
use Rattle.std.proofs.Common.{◌≡◌, ap, arith}
use Rattle.image.specs.Profile.{point_at, role_at}
use Rattle.image.specs.Order.{entry_by}
use Rattle.image.specs.declared.order.Entry.{Entry}
use Rattle.image.proofs.OrderLaws.{entry_same}
use Rattle.image.proofs.SectionLaws.{within_limits}
use Rattle.image.proofs.ClassImage.entry_at.Goals as goal

pub of-requires : goal.of-requires
of-requires c = let f = within_limits _ c.self.invariant in omega arith

pub returns : goal.returns
returns c =
    rw (← c.self.view_is) (
    let s = c.self.inside.bytes.now in
    let e : c.get-entry.result ≡ entry_by (point_at s) (role_at s) c.args.i = entry_same _ c.of.ensures.0 c.get-entry.ensures in
    ap (λ (x : Entry). record { first = x.point; last = x.point; class = x.role }) e
    )
