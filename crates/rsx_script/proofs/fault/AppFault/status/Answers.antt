use Rattle.std.proofs.Common.{rules}
use Rattle.rsx_script.proofs.fault.AppFault.status.Goals as goal

pub returns-in-Io : goal.returns-in-Io
returns-in-Io c = search rules
