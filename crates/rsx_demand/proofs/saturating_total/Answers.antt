use Rattle.std.proofs.Common.{rules}
use Rattle.rsx_demand.proofs.saturating_total.Goals as goal

pub returns : goal.returns
returns c = search rules
