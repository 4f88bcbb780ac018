-- `blocks::known` meets its contract, by the length. Assumes nothing.
use Prim.Native.Nat.{◌+◌}
use mathlib.Core.Path.{◌≡◌, refl}
use native.Mathlib.Omega.{arith}
use Rattle.std.proofs.lemmas.List.Edits.{length-between}
use Rattle.utf8.proofs.EncodingLaws.{encodes_2, encodes_3, encodes_4}
use Rattle.blocks.proofs.ByteLaws.{first_at, trail_at, found}
use Rattle.blocks.proofs.known.Goals as goal

pub returns-in-192-to-223 : goal.returns-in-192-to-223
returns-in-192-to-223 g c =
    let e = c.args.at + g.row.LEN in
    let l : g.row.LEN ≡ 2 = omega (arith, length-between c.args.text.now c.args.at e c.requires.at_in_bounds, c.in-192-to-223.len_at_least, c.in-192-to-223.len_below) in
    let p = first_at c.args.text.now c.args.at e (omega arith) in
    let t = trail_at c.args.text.now c.args.at e 1 (omega arith) c.if-is_trail.ensures in
    found 1 l c.held.ensures (omega arith) (omega arith) (omega arith) refl (omega arith) (λ m. encodes_2 _ _ (omega arith, omega arith) (omega arith, omega arith))

pub returns-in-224-to-239 : goal.returns-in-224-to-239
returns-in-224-to-239 g c =
    let e = c.args.at + g.row.LEN in
    let l : g.row.LEN ≡ 3 = omega (arith, length-between c.args.text.now c.args.at e c.requires.at_in_bounds, c.in-224-to-239.len_at_least, c.in-224-to-239.len_below) in
    let p = first_at c.args.text.now c.args.at e (omega arith) in
    let t = trail_at c.args.text.now c.args.at e 1 (omega arith) c.if-is_trail-2.ensures in
    let u = trail_at c.args.text.now c.args.at e 2 (omega arith) c.if-is_trail-3.ensures in
    found 2 l c.held-in-224-to-239.ensures (omega arith) (omega arith) (omega arith) refl (omega arith) (encodes_3 _ _ _ (omega arith, omega arith) (omega arith, omega arith) (omega arith, omega arith))

pub returns-in-240 : goal.returns-in-240
returns-in-240 g c =
    let e = c.args.at + g.row.LEN in
    let l : g.row.LEN ≡ 4 = omega (arith, length-between c.args.text.now c.args.at e c.requires.at_in_bounds, c.in-240.len_at_least, c.in-240.len_below) in
    let p = first_at c.args.text.now c.args.at e (omega arith) in
    let w = trail_at c.args.text.now c.args.at e 1 (omega arith) c.if-is_trail-4.ensures in
    let x = trail_at c.args.text.now c.args.at e 2 (omega arith) c.if-is_trail-5.ensures in
    let y = trail_at c.args.text.now c.args.at e 3 (omega arith) c.if-is_trail-6.ensures in
    found 3 l c.held-in-240.ensures (omega arith) (omega arith) (omega arith) refl (omega arith) (encodes_4 _ _ _ _ (omega arith, omega arith) (omega arith, omega arith) (omega arith, omega arith) (omega arith, omega arith))
