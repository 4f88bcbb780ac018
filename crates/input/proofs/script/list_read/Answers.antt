-- `input::script::list_read` meets its contract: no more of the input matters than is read. Assumes nothing.
use mathlib.Core.Path.{◌∙◌}
use native.Mathlib.Omega.{arith}
use lib.ListN.{length-take}
use Rattle.input.proofs.ScriptLaws.{whole_answer_lem}
use Rattle.input.proofs.script.list_read.Goals as goal

pub returns : goal.returns
returns c = record { value = c.list_input.ensures.value; by_index = λ whole e. c.list_input.ensures.value ∙ whole_answer_lem whole _ c.requires.max_script_in_bounds.0 _ e _ c.requires.max_script_in_bounds.1; out_after = c.list_input.ensures.out_after }

pub slice_bounds-list_input-end : goal.slice_bounds-list_input-end
slice_bounds-list_input-end c = simp length-take (omega arith)
