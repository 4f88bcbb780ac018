-- The tokens that were listed have their words in the buffer.
use Rattle.std.proofs.Common.{arith, sym, ◌∙◌}
use Rattle.input.proofs.ScriptLaws.{listing_fits}
use Rattle.printing.proofs.FitsLaws.{tokens_fit}
use Rattle.lister.proofs.main.Goals as goal

pub print_listing-requires : goal.print_listing-requires
print_listing-requires c =
    tokens_fit _ _
    (λ n e. let f = listing_fits _ _ n (sym e ∙ c.list_read-answer.ensures.value) in omega arith)
