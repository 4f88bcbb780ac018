-- `character::next_place` meets its contract: the first place at which x is reached. Assumes nothing.
use Prim.Native.Nat.{ℕ, ◌≤◌, ◌<◌}
use borrow.Author.Tests.{tests}
use Rattle.std.proofs.Common.{rules}
use Rattle.std.proofs.lemmas.Iterator.{first_from_Range}
use Rattle.image.specs.Records.{record_at}
use Rattle.character.proofs.PlaceLaws.{placed_first}
use Rattle.character.proofs.next_place.Goals as goal

pub returns : goal.returns
returns c =
    let at = record_at c.args.image.now c.args.section in
    let x = c.args.x in
    placed_first _ _ _ c.find.result c.requires.passed c.count_records-count.ensures.count c.unwrap_or.ensures
    (first_from_Range _ _ _ c.find.result (λ (i : ℕ). x ≤ (at i).last) (λ (i : ℕ). (at i).last < x) c.find.ensures.ran (λ i q k. search (rules, tests)) (λ i q k. search (rules, tests)))
