use Rattle.std.proofs.Common.{rules}
use Rattle.rsx_verify.proofs.runs.processor_run.Goals as goal

pub returns-clause-recorded : goal.returns-clause-recorded
returns-clause-recorded g c = search rules
