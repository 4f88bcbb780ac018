-- `character::settle` meets its contract: the traits by the memo or a search. Assumes nothing.
use Prim.Native.Nat.{◌/◌}
use mathlib.Core.Path.{refl, sym}
use Rattle.character.specs.Read.{MemoAt}
use Rattle.character.proofs.CharacterLaws.{memo_known}
use Rattle.character.proofs.settle.Goals as goal
use Rattle.character.proofs.settle.Goals.{Joined-is_known, then-is_known, else-is_known}

found : (c : goal.Joined-is_known) → MemoAt c.args.image.now (c.args.packed / 8) c.if-is_known.memo
found c =
    elim c.if-is_known.branch [
      | then-is_known w ↦ rw w.memo-is (memo_known c.is_known.ensures w.if-is_known.true c.requires.memo_of)
      | else-is_known w ↦ rw w.memo-is w.search-memo.ensures
    ]

pub returns : goal.returns
returns c =
    let m = found (goal.at.returns c).Joined-is_known in
    record { memo = m.all; len = refl; code = refl; traits = sym (m.all _ m.from m.to) }
