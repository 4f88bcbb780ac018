-- `pair::has_same_profile` meets its contract. Assumes nothing.
use mathlib.Core.Path.{refl, sym, ◌∙◌}
use native.Mathlib.Omega.{arith}
use Rattle.std.proofs.Common.{rules, tests, not}
use Rattle.std.proofs.lemmas.Iterator.{YieldsList-from_range}
use Rattle.std.proofs.lemmas.Iterator.Search.{all_from_yields_List}
use borrow.Author.Tests.{ne_eqb}
use Rattle.pair.specs.Pair.{differs_at}
use Rattle.pair.proofs.ProfileLaws.{other_count, same_count}
use Rattle.pair.proofs.has_same_profile.Goals as goal

pub returns-then-count_records-count : goal.returns-then-count_records-count
returns-then-count_records-count c =
    let n = c.count_records-count.ensures.count in
    let all =
    all_from_yields_List (λ i. not (differs_at c.args.older.now c.args.newer.now i)) _ _ _ c.all.ensures.ran
    (YieldsList-from_range 0 _ c.count_records-count.result refl (omega arith)) (λ x b q k. search (rules, tests)) in
    rw n at all ∙ same_count _ _ (sym c.count_records.ensures.count ∙ c.if-count_records-count.true ∙ n)

pub returns-else-count_records-count : goal.returns-else-count_records-count
returns-else-count_records-count c =
    ne_eqb _ _ c.if-count_records-count.false
    ∙ other_count _ _ (λ z. c.if-count_records-count.false (c.count_records.ensures.count ∙ z ∙ sym c.count_records-count.ensures.count))
