use Rattle.std.proofs.Common.{rules}
use Rattle.rsx_demand.proofs.Demand.spend.Goals as goal

pub returns-clause-sent : goal.returns-clause-sent
returns-clause-sent c = search rules
