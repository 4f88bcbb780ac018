-- `image::judge` meets its contract. Assumes nothing.
use mathlib.Core.Path.{sym, ◌∙◌}
use Rattle.image.proofs.ImageLaws.{sized, refuses, header_refused, length_refused}
use Rattle.image.proofs.judge.Goals as goal

pub returns-then-not-is_length_right : goal.returns-then-not-is_length_right
returns-then-not-is_length_right c = refuses _ _ (length_refused _ _ (sym c.is_length_right.ensures ∙ c.if-not-is_length_right.true))

pub is_header_right-requires : goal.is_header_right-requires
is_header_right-requires c = (sized _ (sym c.is_length_right.ensures ∙ c.if-not-is_length_right.false)).long

pub returns-then-not-is_header_right : goal.returns-then-not-is_header_right
returns-then-not-is_header_right c =
    refuses _ _ (header_refused _ _ (sym c.is_length_right.ensures ∙ c.if-not-is_length_right.false) (sym c.is_header_right.ensures ∙ c.if-not-is_header_right.true))
