-- `character::memo_of` meets its contract: the part that the stretches of x share. Assumes nothing.
use Prim.Native.Nat.{ℕ, ◌≤◌}
use mathlib.Core.Path.{◌≡◌}
use native.Mathlib.Omega.{arith}
use Rattle.grammar.specs.White.{white_of}
use Rattle.character.specs.Read.{MemoAt}
use Rattle.character.proofs.TraitLaws.{white_small}
use Rattle.character.proofs.CharacterLaws.{joined, after_small, memo_other, memo_white}
use Rattle.character.proofs.memo_of.Goals as goal
use Rattle.character.proofs.memo_of.Goals.{Joined-after-eq-WHITE, then-after-eq-WHITE, else-after-eq-WHITE}

-- by whether it is White: its class part, and its memo
part :
    (c : goal.Joined-after-eq-WHITE)
    → let p = c.if-after-eq-WHITE.part in
    (p.class ≤ 7) × ((t : ℕ) → t ≡ joined p.class c.args.role.class → MemoAt c.args.image.now c.args.x (record { first = p.first; last = p.last; traits = t }))
part c =
    let r = c.requires in
    elim c.if-after-eq-WHITE.branch [
      | then-after-eq-WHITE w ↦
          let v = w.white_stretch.ensures in
          rw w.part-is (
            omega (arith, w.share-part.ensures.class, v.same c.args.x v.from v.to, white_small (white_of c.args.x)),
            λ t q. memo_white _ _ _ _ _ _ _ r.stretch_of r.stretch_of_2 c.share-both.ensures c.after_role-after.ensures _ _ w.if-after-eq-WHITE.true v w.share-part.ensures q,
          )
      | else-after-eq-WHITE w ↦
          rw w.part-is (
            after_small _ _ c.recall.ensures _ _ _ r.stretch_of c.after_role-after.ensures,
            λ t q. memo_other _ _ _ _ _ _ _ r.stretch_of r.stretch_of_2 c.share-both.ensures c.after_role-after.ensures w.if-after-eq-WHITE.false q,
          )
    ]

pub join_traits-requires : goal.join_traits-requires
join_traits-requires c = (part c).0

pub returns : goal.returns
returns c = (part (goal.at.returns c).Joined-after-eq-WHITE).1 _ c.join_traits.ensures
