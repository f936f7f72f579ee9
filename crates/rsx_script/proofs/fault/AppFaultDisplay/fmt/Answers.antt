use Rattle.std.proofs.Common.{rules}
use Rattle.rsx_script.proofs.fault.AppFaultDisplay.fmt.Goals as goal

pub returns-in-Io-clause-writes : goal.returns-in-Io-clause-writes
returns-in-Io-clause-writes g c = search rules
