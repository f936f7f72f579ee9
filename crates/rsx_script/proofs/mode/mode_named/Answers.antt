use Rattle.std.proofs.Common.{rules}
use Rattle.rsx_script.proofs.mode.mode_named.Goals as goal

pub returns-in-scratch : goal.returns-in-scratch
returns-in-scratch c = search rules
