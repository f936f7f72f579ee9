use Rattle.std.proofs.Common.{rules}
use Rattle.rsx_values.proofs.delaying.merge_delay_inputs.Goals as goal

pub returns-in_err-taken : goal.returns-in_err-taken
returns-in_err-taken g c = search rules

pub returns-in_err-value-in-Some : goal.returns-in_err-value-in-Some
returns-in_err-value-in-Some g c = search rules

pub returns-in_ok-value-in-Some : goal.returns-in_ok-value-in-Some
returns-in_ok-value-in-Some g c = search rules

pub returns-in-None : goal.returns-in-None
returns-in-None g c = search rules
