-- `grammar::refuse_at` meets its contract. Assumes nothing.
use mathlib.Core.Path.{sym, ap, ◌∙◌}
use native.Mathlib.Omega.{arith}
use lib.ListN.{drop, length-drop}
use Rattle.lists.proofs.LaidLaws.{rest}
use Rattle.utf8.specs.Text.{text_of}
use Rattle.utf8.proofs.TextLaws.{ill_within}
use Rattle.grammar.proofs.refuse_at.Goals as goal

pub overflow_add-result : goal.overflow_add-result
overflow_add-result c =
    let bad = c.in-Err.field-0 in
    let w = ill_within (drop c.args.at c.args.text.now) bad.place bad.len (ap text_of (sym (rest c.args.text.now c.args.at)) ∙ sym c.check_text.ensures ∙ c.in-Err.is) in
    omega (arith, length-drop c.args.at c.args.text.now)
