-- `grammar::judge_checked` meets its contract. Assumes nothing.
use mathlib.Core.Path.{sym, ap}
use Rattle.image.specs.Opened.{judgement_of}
use Rattle.image.proofs.ImageLaws.{accepted}
use Rattle.grammar.specs.Before.{too_long, allowed}
use Rattle.grammar.proofs.BeforeLaws.{means_before}
use Rattle.grammar.proofs.judge_checked.Goals as goal

pub returns-then-most-text : goal.returns-then-most-text
returns-then-most-text c = sym (ap judgement_of (means_before _ _ _ (too_long (accepted _ c.recall.ensures) c.if-most-text.true)))

pub returns : goal.returns
returns c = sym (ap judgement_of (means_before _ _ _ (allowed (accepted _ c.recall.ensures) c.if-most-text.false)))
