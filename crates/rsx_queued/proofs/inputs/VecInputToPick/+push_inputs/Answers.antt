use Rattle.std.proofs.Common.{rules, arith}
use Rattle.std.proofs.lemmas.Grind.{common_steps}
use Rattle.rsx_queued.proofs.inputs.VecInputToPick.+push_inputs.Goals as goal

pub shared_whole_as_slice-push_input : goal.shared_whole_as_slice-push_input
shared_whole_as_slice-push_input g t c = search rules

pub returns-in_err-push_input-in-None-split_first : goal.returns-in_err-push_input-in-None-split_first
returns-in_err-push_input-in-None-split_first g t c = search rules

pub overflow_add-number : goal.overflow_add-number
overflow_add-number g t c = search rules

pub push_inputs-requires : goal.push_inputs-requires
push_inputs-requires g t c κs within = search rules

pub returns-in_err-push_input-in-Some-split_first : goal.returns-in_err-push_input-in-Some-split_first
returns-in_err-push_input-in-Some-split_first g t c = search rules

pub overflow_add-number-in-Some-split_first : goal.overflow_add-number-in-Some-split_first
overflow_add-number-in-Some-split_first g t c = search rules

pub push_inputs-requires-in-Some-split_first : goal.push_inputs-requires-in-Some-split_first
push_inputs-requires-in-Some-split_first g t c κs within = search rules

pub returns-in-None : goal.returns-in-None
returns-in-None g t c = grind (arith, common_steps)

pub returns-in_ok-push_input-in-None-split_first : goal.returns-in_ok-push_input-in-None-split_first
returns-in_ok-push_input-in-None-split_first g t c = grind (arith, common_steps)

pub returns-in_ok-push_input-in-Some-split_first : goal.returns-in_ok-push_input-in-Some-split_first
returns-in_ok-push_input-in-Some-split_first g t c = grind (arith, common_steps)
