-- `token::list_with` meets its contract. Assumes nothing.
use mathlib.Core.Path.{sym, ◌∙◌}
use native.Mathlib.Omega.{arith}
use lib.ListN.{length}
use borrow.Author.Tests.{leb-true, leb-false}
use Rattle.std.proofs.lemmas.Result.{err_from_is_err_and}
use Rattle.token.proofs.AnswerLaws.{list_stopped, list_no_room, list_given, room_words}
use Rattle.token.proofs.EndLaws.{empty_counted, none_written, not_zero}
use Rattle.token.proofs.list_with.Goals as goal

pub returns-then-text-eq0 : goal.returns-then-text-eq0
returns-then-text-eq0 c =
    let e = empty_counted c.args.image.now c.args.text.now c.if-text-eq0.true in
    let g = list_given c.args.image.now c.args.text.now c.args.out.now c.recall.ensures c.requires.text_len_bound e (omega arith) in record { value = g.0; out_after = none_written c.args.image.now c.args.text.now c.args.out.now (sym e) ∙ g.1 }

pub mark_first-requires : goal.mark_first-requires
mark_first-requires c = record { learning = c.begin-rows.ensures.0 c.args.index.now c.requires.blank.0; text_nonzero = (not_zero _ c.if-text-eq0.false, c.requires.text_len_bound); margin_in_bounds = omega (arith, c.requires.in_bounds) }

pub count_on-requires : goal.count_on-requires
count_on-requires c = record { learning = c.in_ok-run.ensures.learning_on; counting_as = c.in_ok-run.ensures.marked.0.marking.counting }

pub returns-then-not-is_room : goal.returns-then-not-is_room
returns-then-not-is_room c = let t = list_no_room _ _ _ c.recall.ensures c.requires.text_len_bound (sym c.in_ok-count.was ∙ c.count_on.ensures.value) (leb-false _ _ (sym c.is_room.ensures ∙ c.if-not-is_room.true)) in record { value = t.0; out_after = t.1 }

pub write_all-requires : goal.write_all-requires
write_all-requires c =
    let h = leb-true _ _ (sym c.is_room.ensures ∙ c.if-not-is_room.false) in
    record {
      learnt = c.count_on.ensures.learnt;
      listing = record { counted = sym c.count_on.ensures.value ∙ c.in_ok-count.was; short = c.requires.text_len_bound; room = room_words _ (length c.args.out.now) h };
      marking = c.in_ok-run.ensures.marked.0.marking;
      in_bounds = omega (arith, c.requires.in_bounds, c.in_ok-run.ensures.marked.1);
    }

pub returns-in_err-run : goal.returns-in_err-run
returns-in_err-run c =
    let p = err_from_is_err_and c.from_residual.result c.from_residual.ensures.1 in
    let t = list_stopped _ _ _ c.recall.ensures c.requires.text_len_bound c.in_err-run.ensures.marked.0 in record { value = rw (p.1, p.2) t.0; out_after = t.1 }

pub returns-in_err-count : goal.returns-in_err-count
returns-in_err-count c =
    let p = err_from_is_err_and c.from_residual-in_err-count.result c.from_residual-in_err-count.ensures.1 in
    let t = list_stopped _ _ _ c.recall.ensures c.requires.text_len_bound (sym c.in_err-count.was ∙ c.count_on.ensures.value) in record { value = rw (p.1, p.2) t.0; out_after = t.1 }

pub returns : goal.returns
returns c =
    let e = sym c.in_ok-count.was ∙ c.count_on.ensures.value in
    let h = leb-true _ _ (sym c.is_room.ensures ∙ c.if-not-is_room.false) in
    let g = list_given _ _ c.args.out.now c.recall.ensures c.requires.text_len_bound e h in record { value = g.0; out_after = c.write_all.ensures ∙ g.1 }
