-- `hashtag::list_accepted` meets its contract. Assumes nothing.
use mathlib.Core.Path.{sym, ◌∙◌}
use Rattle.std.proofs.lemmas.Result.{err_from_is_err_and}
use Rattle.grammar.proofs.BeforeLaws.{nothing_refused}
use Rattle.hashtag.proofs.AnswerLaws.{list_ill, list_no_room, list_fits, list_given}
use Rattle.hashtag.proofs.list_accepted.Goals as goal

pub count_hashtags-requires : goal.count_hashtags-requires
count_hashtags-requires c = record { table_of = c.fill_table-table.ensures }

pub returns-then-out-count : goal.returns-then-out-count
returns-then-out-count c =
    let t = list_no_room _ _ _ c.requires
    (sym c.in_ok-count.was ∙ c.count_hashtags.ensures) c.if-out-count.true in record { value = t.0; out_after = t.1 }

pub write_hashtags-requires : goal.write_hashtags-requires
write_hashtags-requires c =
    let read = nothing_refused _ _ _ c.requires in
    let f = list_fits _ _ c.args.out.now c.requires
    (sym c.in_ok-count.was ∙ c.count_hashtags.ensures) c.if-out-count.false in
    record { table_of = c.fill_table-table.ensures; text_len_bound = read.1; text_value = f.0; text_in_bounds = f.1 }

pub returns-in_err-count : goal.returns-in_err-count
returns-in_err-count c =
    let p = err_from_is_err_and c.from_residual.result c.from_residual.ensures.1 in
    let t = list_ill _ _ _ c.requires (sym c.in_err-count.was ∙ c.count_hashtags.ensures) in record { value = rw (p.1, p.2) t.0; out_after = t.1 }

pub returns : goal.returns
returns c =
    let g = list_given _ _ c.args.out.now c.requires
    (sym c.in_ok-count.was ∙ c.count_hashtags.ensures)
    c.if-out-count.false in record { value = g.0; out_after = c.write_hashtags.ensures ∙ g.1 }
