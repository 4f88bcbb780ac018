-- `input::split_front` meets its contract: both parts are at the place where the image ends, 0 where it doesn't come whole.
use Rattle.std.proofs.Common.{◌≡◌, List, ℕ, unwrap_or, Option, take, drop, ap, ◌∙◌}
use Rattle.input.specs.Front.{whole_end, end_in}
use Rattle.input.proofs.FrontLaws.{end_within_lem, found_or_zero}
use Rattle.input.proofs.split_front.Goals as goal

at_end : (input : List ℕ) {o : Option ℕ} {n : ℕ} → o ≡ whole_end input → n ≡ unwrap_or o 0 → n ≡ end_in input
at_end input e f = f ∙ ap (λ o. unwrap_or o 0) e ∙ found_or_zero input

pub split_at-requires : goal.split_at-requires
split_at-requires c = (end_within_lem _ (at_end _ c.find_end.ensures c.unwrap_or.ensures)).0

pub returns-clause-image : goal.returns-clause-image
returns-clause-image c = c.split_at.ensures.front ∙ ap (λ n. take n c.args.input.now) (at_end _ c.find_end.ensures c.unwrap_or.ensures)

pub returns-clause-rest : goal.returns-clause-rest
returns-clause-rest c = c.split_at.ensures.back ∙ ap (λ n. drop n c.args.input.now) (at_end _ c.find_end.ensures c.unwrap_or.ensures)
