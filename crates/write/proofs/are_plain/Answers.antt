-- `write::are_plain` meets its contract. Assumes nothing.
use Prim.Native.Nat.{ℕ}
use mathlib.Core.Path.{sym, subst, ◌∙◌}
use mathlib.Core.Bool.{false≢true}
use native.Mathlib.Omega.{arith}
use Rattle.character.specs.Traits.{token_traits}
use Rattle.write.specs.Records.{Apart}
use Rattle.write.proofs.PlainLaws.{each_end, filled_apart, part_apart}
use Rattle.write.proofs.are_plain.Goals as goal
use Rattle.write.proofs.are_plain.Goals.{then-are_apart, else-are_apart}

pub returns-then-are_apart-2 : goal.returns-then-are_apart-2
returns-then-are_apart-2 c e =
    elim c.if-are_apart.branch [
      | then-are_apart w ↦
          each_end (λ (x : ℕ). Apart (token_traits c.args.image.now x))
          (λ x h l. subst Apart (c.requires.token_table_of.each x (omega arith)) (part_apart c.args.cells.now (c.are_apart.ensures w.if-are_apart.true) (omega (arith, c.requires.token_table_of.long)) x h l))
          (filled_apart c.args.image.now 0x85 c.fill_cells.ensures 0 (omega arith) (w.are_apart-then-are_apart.ensures (sym w.value-is ∙ c.if-are_apart-2.true) 0 (omega (arith, c.fill_cells.ensures.long))))
          (filled_apart c.args.image.now 0x2028 c.fill_cells-2.ensures 0 (omega arith) (c.are_apart-then-are_apart-2.ensures e 0 (omega (arith, c.fill_cells-2.ensures.long))))
          (filled_apart c.args.image.now 0x2028 c.fill_cells-2.ensures 1 (omega arith) (c.are_apart-then-are_apart-2.ensures e 1 (omega (arith, c.fill_cells-2.ensures.long))))
      | else-are_apart w ↦ absurd (false≢true (sym w.if-are_apart.false ∙ sym w.value-is ∙ c.if-are_apart-2.true))
    ]
