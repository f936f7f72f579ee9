use Rattle.std.proofs.Common.{rules}
use Rattle.rsx_plain.proofs.state.PlainStateAnswering.to_ending.Goals as goal

pub returns-in-Take-default-eq0 : goal.returns-in-Take-default-eq0
returns-in-Take-default-eq0 g c = search rules

pub returns-in-Ok : goal.returns-in-Ok
returns-in-Ok g c = search rules

pub returns-in-Err : goal.returns-in-Err
returns-in-Err g c = search rules
