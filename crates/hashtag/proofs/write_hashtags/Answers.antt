-- `hashtag::write_hashtags` meets its contract. Assumes nothing.
use Rattle.hashtag.proofs.ListLaws.{writing_begins, next_part, next_put}
use Rattle.hashtag.proofs.write_hashtags.Goals as goal

pub loop-found-init : goal.loop-found-init
loop-found-init c = writing_begins _ _ _

pub put_record-requires-clause-record_size_in_bounds : goal.put_record-requires-clause-record_size_in_bounds
put_record-requires-clause-record_size_in_bounds c = next_part _ _ c.loop-found.invariant c.in-Some.ensures.sought c.requires.text_in_bounds

pub loop-found-preserved : goal.loop-found-preserved
loop-found-preserved c =
    let l = c.in-Some.ensures.line_at_2 in
    next_put _ _ c.loop-found.invariant c.in-Some.ensures.sought c.requires.text_in_bounds l.0 l.1 _ _ c.find_run_end-end.ensures.0 c.put_record.ensures
