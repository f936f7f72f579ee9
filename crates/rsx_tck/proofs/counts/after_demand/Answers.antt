use Rattle.std.proofs.Common.{rules}
use Rattle.rsx_tck.proofs.counts.after_demand.Goals as goal

pub invariant_of-rules-2 : goal.invariant_of-rules-2
invariant_of-rules-2 c = search rules
