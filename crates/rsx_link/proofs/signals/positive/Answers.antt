use Rattle.std.proofs.Common.{rules}
use Rattle.rsx_link.proofs.signals.positive.Goals as goal

pub returns-else-n-gt0 : goal.returns-else-n-gt0
returns-else-n-gt0 c = search rules
