-- `token::count_accepted` meets its contract. Assumes nothing.
use mathlib.Core.Path.{refl, ◌∙◌}
use borrow.Author.Rules.{rules}
use Rattle.blocks.proofs.BlankLaws.{blank}
use Rattle.token.proofs.AnswerLaws.{count_through_lem}
use Rattle.token.proofs.count_accepted.Goals as goal

pub count_with-requires : goal.count_with-requires
count_with-requires c = record { blank = (blank _ refl, blank _ refl, search rules) }

pub returns-then-text-lt-SHORT : goal.returns-then-text-lt-SHORT
returns-then-text-lt-SHORT c = c.count_with.ensures ∙ count_through_lem _ _ c.requires

pub count_with-requires-2 : goal.count_with-requires-2
count_with-requires-2 c = record { blank = (blank _ refl, blank _ refl, search rules) }

pub returns : goal.returns
returns c = c.count_with-2.ensures ∙ count_through_lem _ _ c.requires
