-- `mark::mark_first` meets its contract: the first character begins the first token. Assumes nothing.
use mathlib.Core.Path.{refl, ap, ◌∙◌}
use native.Mathlib.Omega.{arith}
use lib.ListN.{length, length-set}
use Rattle.std.proofs.lemmas.Result.{err_from_is_err_and}
use Rattle.mark.proofs.MarkLaws.{marks_first}
use Rattle.mark.proofs.mark_first.Goals as goal

pub look-requires : goal.look-requires
look-requires c = record { token_table_of = c.requires.learning.cached.ascii; counting_as = record { start = 0; counting = (c.begin-first.ensures.0 _).0; memo = (c.begin-first.ensures.0 _).1 }; at_in_bounds = omega (arith, c.begin-first.ensures.2, c.requires.text_nonzero.0) }

pub returns-in_err-next : goal.returns-in_err-next
returns-in_err-next c =
    let p = err_from_is_err_and c.from_residual.result c.from_residual.ensures.1 in
    rw (p.1, p.2) (record { marked = (c.in_err-next.ensures, refl); learning_on = tt })

pub put_start-requires : goal.put_start-requires
put_start-requires c = (omega (arith, c.requires.margin_in_bounds), omega arith, (c.in_ok-next.ensures.counting 0 (c.begin-first.ensures.0 _).0).less)

pub learn_at-rows-requires : goal.learn_at-rows-requires
learn_at-rows-requires c = record { fits = c.requires.learning.cached.fits; at_in_bounds = c.requires.text_nonzero.0 }

pub mark_on-requires : goal.mark_on-requires
mark_on-requires c =
    record {
      learning = c.learn_at-rows.ensures.by_index _ c.recall.ensures c.in_ok-next.ensures.memo c.requires.learning;
      text_len_bound = c.requires.text_nonzero.1;
      marking = marks_first c.args.starts.now _ (c.begin-first.ensures.0 _).0 c.begin-first.ensures.3 c.begin-first.ensures.4 c.in_ok-next.ensures c.requires.margin_in_bounds c.put_start.ensures;
    }

pub returns : goal.returns
returns c = record { marked = (c.mark_on.ensures.marked.0, c.mark_on.ensures.marked.1 ∙ ap length c.put_start.ensures ∙ simp length-set); learning_on = c.mark_on.ensures.learning_on }
