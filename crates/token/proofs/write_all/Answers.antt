-- `token::write_all` meets its contract. Assumes nothing.
use Prim.Native.Nat.{◌-◌}
use mathlib.Core.Path.{refl}
use native.Mathlib.Omega.{arith}
use lib.ListN.{get_or, length-set}
use Rattle.token.proofs.FillLaws.{filling_begins, filling_listing, filling_piece, filling_written, filling_moved, filling_next, filling_last, filling_ends, left_less}
use Rattle.token.proofs.write_all.Goals as goal

pub are_plain-plain-requires : goal.are_plain-plain-requires
are_plain-plain-requires c = record { token_table_of = c.requires.learnt.learning.cached.ascii }

pub loop-run-init : goal.loop-run-init
loop-run-init c = (filling_begins _ _ c.requires.listing.counted refl c.requires.marking c.requires.learnt c.requires.in_bounds, refl, refl, refl)

pub overflow_sub-n : goal.overflow_sub-n
overflow_sub-n c = c.loop-run.invariant.0.marking.from

pub put_records-from-requires : goal.put_records-from-requires
put_records-from-requires c = record { listing = filling_listing c.loop-run.invariant.0 c.requires.listing; plain = c.are_plain-plain.ensures; piece = filling_piece c.loop-run.invariant.0; n_in_bounds = omega (arith, c.loop-run.invariant.0.marking.room); written_to = filling_written c.loop-run.invariant.0 }

pub offset_bounds-starts-n : goal.offset_bounds-starts-n
offset_bounds-starts-n c = omega (arith, c.loop-run.invariant.0.marking.room)

pub bounds-starts-n : goal.bounds-starts-n
bounds-starts-n c = omega (arith, c.loop-run.invariant.0.marking.room)

pub bounds-starts-0 : goal.bounds-starts-0
bounds-starts-0 c = omega (arith, c.loop-run.invariant.0.long)

pub mark_on-requires : goal.mark_on-requires
mark_on-requires c = record { learning = c.loop-run.invariant.0.learning; text_len_bound = c.requires.listing.short; marking = filling_moved c.loop-run.invariant.0 _ _ c.put_records-from.ensures.wrote.0 c.put_records-from.ensures.wrote.1 c.put_records-from.ensures.written_to_2 }

pub loop-run-smaller : goal.loop-run-smaller
loop-run-smaller c =
    let m = c.in-Ok.ensures.marked.0 in
    let f = filling_next c.loop-run.invariant.0 _ _ c.put_records-from.ensures.wrote.0 c.put_records-from.ensures.wrote.1 c.put_records-from.ensures.written_to_2 m.marking c.in-Ok.ensures.learning_on c.in-Ok.ensures.marked.1 in
    left_less _ _ c.loop-run-test.true f.long m

pub loop-run-preserved : goal.loop-run-preserved
loop-run-preserved c =
    let m = c.in-Ok.ensures.marked.0 in
    let f = filling_next c.loop-run.invariant.0 _ _ c.put_records-from.ensures.wrote.0 c.put_records-from.ensures.wrote.1 c.put_records-from.ensures.written_to_2 m.marking c.in-Ok.ensures.learning_on c.in-Ok.ensures.marked.1 in
    (f, omega arith, omega arith, omega (arith, length-set c.loop-run.starts 0 (get_or c.loop-run.starts (c.loop-run.run.count - c.loop-run.done) 0)))

pub end_starts-n-requires : goal.end_starts-n-requires
end_starts-n-requires c = record { text_len_bound = c.requires.listing.short; marking = c.loop-run.invariant.0.marking; text_len_bound_2 = c.loop-run-test.false }

pub put_records-last-requires : goal.put_records-last-requires
put_records-last-requires c = record { listing = filling_listing c.loop-run.invariant.0 c.requires.listing; plain = c.are_plain-plain.ensures; piece = filling_last c.loop-run.invariant.0 _ _ c.end_starts-n.ensures.ended; n_in_bounds = c.end_starts-n.ensures.upper_bound.0; written_to = filling_written c.loop-run.invariant.0 }

pub returns : goal.returns
returns c = filling_ends c.loop-run.invariant.0 _ _ c.end_starts-n.ensures.ended _ c.put_records-last.ensures.wrote.0
