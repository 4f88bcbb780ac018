-- `token::list_accepted` meets its contract. Assumes nothing.
use mathlib.Core.Path.{refl}
use borrow.Author.Rules.{rules}
use Rattle.blocks.proofs.BlankLaws.{blank}
use Rattle.grammar.proofs.BeforeLaws.{nothing_refused}
use Rattle.token.proofs.list_accepted.Goals as goal

pub list_with-requires : goal.list_with-requires
list_with-requires c = let n = nothing_refused _ _ _ c.requires in record { blank = (blank _ refl, blank _ refl, search rules); text_len_bound = n.1; in_bounds = search rules }

pub list_with-requires-2 : goal.list_with-requires-2
list_with-requires-2 c = let n = nothing_refused _ _ _ c.requires in record { blank = (blank _ refl, blank _ refl, search rules); text_len_bound = n.1; in_bounds = search rules }
