-- `input::script::list_input` meets its contract: what the two parts give is what the input gives.
use Rattle.std.proofs.Common.{rules}
use Rattle.input.specs.Script.{listed_within, script_words_within}
use Rattle.input.proofs.script.list_input.Goals as goal

pub returns-clause-value : goal.returns-clause-value
unfolding listed_within
returns-clause-value c = search rules

pub returns-clause-out_after : goal.returns-clause-out_after
unfolding script_words_within
returns-clause-out_after c = search rules
