-- `line::count_end` meets its contract. Assumes nothing.
use mathlib.Core.Bool.{Bool, true, false, not, ◌&&◌}
use mathlib.Core.Path.{◌≡◌, refl, sym, ap, ◌∙◌}
use mir.Val.{bool_byte}
use borrow.Author.Tests.{ne_eqb}
use lib.Dec.{eqb}
use Rattle.std.proofs.lemmas.Bool.{and_left, and_right}
use Rattle.utf8.specs.Text.{characters_at}
use Rattle.line.specs.Line.{feed_first, ends_line, one}
use Rattle.line.proofs.LineLaws.{return_before_feed}
use Rattle.line.proofs.count_end.Goals as goal
use Rattle.line.proofs.count_end.Goals.{else-code-eq-CARRIAGE_RETURN-via-then-code-eq-CARRIAGE_RETURN+else-is_feed_at, else-code-eq-CARRIAGE_RETURN-via-else-code-eq-CARRIAGE_RETURN}

-- a line end that no LINE FEED takes over
alone : (b t : Bool) → t ≡ false → bool_byte b ≡ one (b && not t)
alone true t e = rw e
alone false t e = refl

pub returns-then-is_feed_at : goal.returns-then-is_feed_at
returns-then-is_feed_at c = sym (return_before_feed _ _ c.if-code-eq-CARRIAGE_RETURN.true (sym c.is_feed_at.ensures ∙ c.if-is_feed_at.true))

pub returns : goal.returns
unfolding ends_line
returns c =
    let t : Bool = eqb c.args.code 0x0D && feed_first (characters_at c.args.text.now c.args.next) in
    let none : t ≡ false = elim c.else-code-eq-CARRIAGE_RETURN.branch [
      | else-code-eq-CARRIAGE_RETURN-via-then-code-eq-CARRIAGE_RETURN+else-is_feed_at w ↦ and_right _ _ (sym w.is_feed_at.ensures ∙ w.if-is_feed_at.false)
      | else-code-eq-CARRIAGE_RETURN-via-else-code-eq-CARRIAGE_RETURN w ↦ and_left _ _ (ne_eqb _ _ w.if-code-eq-CARRIAGE_RETURN.false)
    ] in
    alone c.is_line_end.result t none ∙ ap (λ (b : Bool). one (b && not t)) c.is_line_end.ensures
