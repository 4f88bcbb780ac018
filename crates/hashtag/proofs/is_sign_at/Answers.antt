-- `hashtag::is_sign_at` meets its contract. Assumes nothing.
use Rattle.std.proofs.Common.{◌∙◌, drop, length-drop, arith}
use borrow.Author.Tests.{ne_eqb}
use Rattle.utf8.proofs.TextLaws.{unpacked}
use Rattle.hashtag.proofs.SignLaws.{sign_here, no_sign_here, sign_unpacked}
use Rattle.hashtag.proofs.is_sign_at.Goals as goal

pub overflow_cast-decode_packed : goal.overflow_cast-decode_packed
overflow_cast-decode_packed c =
    let u = unpacked (drop c.args.at c.args.text.now) _ c.decode_packed.ensures (omega (arith, length-drop c.args.at c.args.text.now)) in
    omega (arith, u.small)

pub returns-then-b : goal.returns-then-b
returns-then-b c = rw c.if-b.true (sign_here _ _ c.requires c.if-b.true)

pub returns-then-b-2 : goal.returns-then-b-2
returns-then-b-2 c = c.is_sign.ensures ∙ sign_unpacked _ _ c.decode_packed.ensures

pub returns-else-b-2 : goal.returns-else-b-2
returns-else-b-2 c = ne_eqb _ _ c.if-b-2.false ∙ no_sign_here c.args.text.now c.args.at c.if-b.false c.if-b-2.false
