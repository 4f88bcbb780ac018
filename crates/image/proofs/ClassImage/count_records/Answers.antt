-- `image::ClassImage::count_records` meets its contract. Assumes nothing.
use native.Mathlib.Omega.{arith}
use Rattle.image.proofs.SectionLaws.{within_limits}
use Rattle.image.proofs.ClassImage.count_records.Goals as goal

pub word-requires : goal.word-requires
word-requires c = let f = within_limits _ c.self.invariant in omega arith

pub word-requires-in-Entries : goal.word-requires-in-Entries
word-requires-in-Entries c = let f = within_limits _ c.self.invariant in omega arith

pub returns-in-Ranges : goal.returns-in-Ranges
returns-in-Ranges c = rw (← c.self.view_is, c.in-Ranges.is) (record { count = c.word.ensures; accepted = c.self.invariant })

pub returns-in-Entries : goal.returns-in-Entries
returns-in-Entries c = rw (← c.self.view_is, c.in-Entries.is) (record { count = c.word-in-Entries.ensures; accepted = c.self.invariant })
