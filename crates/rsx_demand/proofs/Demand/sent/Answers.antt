use Rattle.std.proofs.Common.{rules}
use Rattle.rsx_demand.proofs.Demand.sent.Goals as goal

pub returns : goal.returns
returns c = search rules
