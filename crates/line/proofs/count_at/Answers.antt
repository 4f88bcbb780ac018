-- `line::count_at` meets its contract. Assumes nothing.
use mathlib.Core.Path.{sym, ◌∙◌}
use native.Mathlib.Omega.{arith}
use lib.ListN.{drop, length-drop}
use Rattle.utf8.proofs.TextLaws.{Unpacked, unpacked}
use Rattle.line.proofs.LineLaws.{end_at_lem, end_none}
use Rattle.line.proofs.count_at.Goals as goal
use Rattle.line.proofs.count_at.Goals.{After-decode_packed-packed}

-- what the packed sequence tells
told : (c : goal.After-decode_packed-packed) → Unpacked (drop c.args.at c.args.text.now) c.decode_packed-packed.result
told c =
    unpacked (drop c.args.at c.args.text.now) _ c.decode_packed-packed.ensures (omega (arith, c.requires, length-drop c.args.at c.args.text.now))

pub returns-then-len-eq0 : goal.returns-then-len-eq0
returns-then-len-eq0 c = sym (end_none _ _ ((told (goal.at.returns-then-len-eq0 c).After-decode_packed-packed).none c.if-len-eq0.true))

pub overflow_cast-packed : goal.overflow_cast-packed
overflow_cast-packed c = omega (arith, (told (goal.at.overflow_cast-packed c).After-decode_packed-packed).small)

pub returns : goal.returns
returns c = c.count_end.ensures ∙ sym (end_at_lem _ _ _ _ ((told (goal.at.returns c).After-decode_packed-packed).some (omega (arith, c.if-len-eq0.false))))
