use Rattle.std.proofs.Common.{rules}
use Rattle.rsx_queued.proofs.output.Output.is_empty.Goals as goal

pub returns-in-Empty : goal.returns-in-Empty
returns-in-Empty g c = search rules

pub returns-in_default : goal.returns-in_default
returns-in_default g c = search rules
