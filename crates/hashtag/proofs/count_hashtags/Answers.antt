-- `hashtag::count_hashtags` meets its contract. Assumes nothing.
use Rattle.std.proofs.Common.{◌∙◌}
use Rattle.hashtag.proofs.ListLaws.{counting_begins, counting_closes}
use Rattle.hashtag.proofs.count_hashtags.Goals as goal

pub loop-sign-init : goal.loop-sign-init
loop-sign-init c = counting_begins _ _

pub returns-in-Err : goal.returns-in-Err
returns-in-Err c = c.close.ensures ∙ counting_closes _ _ c.loop-sign.invariant c.in-Err.ensures
