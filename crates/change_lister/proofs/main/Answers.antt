-- The changes that were listed have their words in the buffers.
use Rattle.std.proofs.Common.{arith, sym, ◌∙◌}
use Rattle.input.proofs.ImagesLaws.{change_listing_means, listed_fits}
use Rattle.printing.proofs.FitsLaws.{changes_fit}
use Rattle.change_lister.proofs.main.Goals as goal

pub print_change_listing-requires : goal.print_change_listing-requires
print_change_listing-requires c =
    let l = c.list_read-answer.ensures in
    changes_fit _ _ _
    (λ k e.
    let f = listed_fits (change_listing_means _ _ _ (sym l.value ∙ e) (sym l.runs_after) (sym l.entries_after)) in
    (omega arith, omega arith))
