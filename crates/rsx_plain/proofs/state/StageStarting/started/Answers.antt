use Rattle.std.proofs.Common.{rules}
use Rattle.rsx_plain.proofs.state.StageStarting.started.Goals as goal

pub returns-in_err-copy-in-Scan : goal.returns-in_err-copy-in-Scan
returns-in_err-copy-in-Scan g c = search rules

pub returns : goal.returns
returns g c = search rules
