-- `get` of `image::order::ImageEntries` meets its contract. Assumes nothing.
use Rattle.std.proofs.Common.{◌∙◌}
use Rattle.image.proofs.ImageLaws.{point_is, role_is}
use Rattle.image.proofs.order.ImageEntriesRecords.get.Goals as goal

pub returns : goal.returns
returns c =
    let l = c.args.self.now in
    simp (c.word.ensures ∙ point_is l.image.now l.base c.args.i l.begins, c.word-2.ensures ∙ role_is l.image.now l.base c.args.i l.begins)
