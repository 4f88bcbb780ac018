-- `character::read_for_tokens` meets its contract: a byte below 80 by the table, another sequence decoded and its traits cut. Assumes nothing.
use Prim.Native.Nat.{ℕ, ◌%◌}
use mathlib.Core.Path.{ap, ◌∙◌}
use Rattle.character.proofs.TraitLaws.{token_traits_lem}
use Rattle.character.proofs.CharacterLaws.{read_ascii}
use Rattle.character.proofs.read_for_tokens.Goals as goal

pub returns-then-b-lt128 : goal.returns-then-b-lt128
returns-then-b-lt128 c = read_ascii _ _ _ c.args.table.now _ _ _ c.requires.token_table_of.each c.requires.memo_of c.requires.at_in_bounds c.if-b-lt128.true c.ascii.ensures

pub returns : goal.returns
returns c =
    record {
      memo = c.read_decoded-c.ensures.memo;
      none = c.read_decoded-c.ensures.none;
      some = λ z. ((c.read_decoded-c.ensures.some z).0, c.token_traits.ensures ∙ ap (λ (t : ℕ). t % 16) (c.read_decoded-c.ensures.some z).1 ∙ token_traits_lem _ _ c.recall.ensures);
    }
