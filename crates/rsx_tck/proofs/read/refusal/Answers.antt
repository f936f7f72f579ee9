use Rattle.std.proofs.Common.{rules}
use Rattle.rsx_tck.proofs.read.refusal.Goals as goal

pub returns : goal.returns
returns c = search rules
