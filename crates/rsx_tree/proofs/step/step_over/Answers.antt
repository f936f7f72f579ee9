use Rattle.std.proofs.Common.{rules}
use Rattle.rsx_tree.proofs.step.step_over.Goals as goal

pub returns-in-Err-NotEnabled-clause-memory : goal.returns-in-Err-NotEnabled-clause-memory
returns-in-Err-NotEnabled-clause-memory g c = search rules
