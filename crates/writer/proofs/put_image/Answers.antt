-- `writer::put_image` meets its contract: header, ranges and entries are laid one after the other. Assumes nothing.
use mathlib.Core.Path.{◌≡◌, sym, ap, ◌∙◌}
use mathlib.Core.List.{◌++◌}
use Prim.Native.Nat.{◌+◌, ◌≤◌}
use native.Mathlib.Omega.{arith}
use lib.ListN.{length, length-append}
use Rattle.lists.specs.Laid.{laid}
use Rattle.lists.specs.Each.{each}
use Rattle.image.specs.Limits.{header_bytes}
use Rattle.image.specs.Header.{entries_at}
use Rattle.image.specs.Profile.{profile_by}
use Rattle.image.specs.Image.{header_words, entry_words, bytes_of_all}
use Rattle.writer.specs.Write.{ranges_in}
use Rattle.writer.proofs.WordLaws.{length_all}
use Rattle.writer.proofs.LayLaws.{joined}
use Rattle.writer.proofs.PartLaws.{whole, image_parts, length_entries}
use Rattle.writer.proofs.put_image.Goals as goal

pub returns : goal.returns
returns c =
    let n = ranges_in c.args.words.now in
    let p = profile_by c.args.entries.now.points.now c.args.entries.now.roles.now c.args.entries.now.used in
    let header = header_words c.args.version n c.args.entries.now.used in
    let entries = each (entry_words p) c.args.entries.now.used in
    let w = whole c.args.words.now c.requires.0 in
    let k = length_entries c.args.version c.args.words.now p c.requires.0 in
    let h = length_all header in
    let g = length_all c.args.words.now in
    let f = length_all entries in
    let front = bytes_of_all header ++ bytes_of_all c.args.words.now in
    let l : length front ≡ entries_at n = omega (arith, length-append (bytes_of_all header) (bytes_of_all c.args.words.now)) in
    let u : header_bytes + length (bytes_of_all c.args.words.now) ≤ length c.args.out.now = omega arith in
    let v : entries_at n + length (bytes_of_all entries) ≤ length c.args.out.now = omega arith in
    let y = joined c.args.out.now (bytes_of_all header) (bytes_of_all c.args.words.now) _ _ header_bytes h u c.put_words.ensures c.put_words-2.ensures in
    joined c.args.out.now front (bytes_of_all entries) _ _ (entries_at n) l v y c.put_entries.ensures
    ∙ ap (laid c.args.out.now 0) (sym (image_parts c.args.version c.args.words.now p c.requires.0))
