-- `image::ClassImage::record_at` meets its contract. Assumes nothing.
use native.Mathlib.Omega.{arith}
use Rattle.image.proofs.SectionLaws.{within_limits}
use Rattle.image.proofs.ClassImage.record_at.Goals as goal

pub range_at-requires : goal.range_at-requires
range_at-requires c =
    let f = within_limits _ c.self.invariant in
    let l = rw (← c.self.view_is, c.in-Ranges.is) at c.requires in
    omega arith

pub entry_at-requires : goal.entry_at-requires
entry_at-requires c = rw c.in-Entries.is at c.requires

pub returns-in-Ranges : goal.returns-in-Ranges
returns-in-Ranges c = rw (← c.self.view_is, c.in-Ranges.is) c.range_at.ensures

pub returns-in-Entries : goal.returns-in-Entries
returns-in-Entries c = rw c.in-Entries.is c.entry_at.ensures
