use Rattle.std.proofs.Common.{rules}
use Rattle.rsx_demand.proofs.Demand.new.Goals as goal

pub returns-clause-asked : goal.returns-clause-asked
returns-clause-asked c = search rules
