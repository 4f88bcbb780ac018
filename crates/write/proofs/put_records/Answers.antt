-- `write::put_records` meets its contract. Assumes nothing.
use Prim.Native.Nat.{◌<◌}
use mathlib.Core.Path.{sym, ◌∙◌}
use native.Mathlib.Omega.{arith}
use lib.ListN.{length-take, length-drop}
use Rattle.write.proofs.WriteLaws.{going_next, turn_lined, turn_spans, turn_short, turn_room, turn_stays}
use Rattle.write.proofs.put_records.Goals as goal
use Rattle.write.proofs.put_records.Goals.{then-may_end_lines, else-may_end_lines}

pub put_record-requires : goal.put_record-requires
put_record-requires c = record { start_le_max_text = turn_short c.requires.listing c.requires.piece c.loop-k.invariant c.loop-k-test.true; record_size_in_bounds = simp (length-take, length-drop) (omega (arith, turn_room c.requires.listing c.requires.piece c.loop-k.invariant c.loop-k-test.true)) }

pub line_after-line-requires : goal.line_after-line-requires
line_after-line-requires c = record { text_len_bound = c.requires.listing.short; line_at = turn_lined c.requires.listing c.requires.piece c.loop-k.invariant c.loop-k-test.true; spans = turn_spans c.requires.listing c.requires.piece c.loop-k.invariant c.loop-k-test.true }

pub loop-k-preserved : goal.loop-k-preserved
loop-k-preserved c =
    let t : c.loop-k.k < c.args.n = c.loop-k-test.true in
    elim c.if-may_end_lines.branch [
      | then-may_end_lines w ↦ rw w.line-is (going_next c.requires.listing c.requires.piece c.loop-k.invariant t c.state_after-kind.ensures w.line_after-line.ensures _ c.put_record.ensures)
      | else-may_end_lines w ↦
          let l = turn_stays c.requires.listing c.requires.piece c.loop-k.invariant t c.recall.ensures c.requires.plain c.state_after-kind.ensures (sym c.may_end_lines.ensures ∙ w.if-may_end_lines.false) in
          rw w.line-is (going_next c.requires.listing c.requires.piece c.loop-k.invariant t c.state_after-kind.ensures l _ c.put_record.ensures)
    ]
