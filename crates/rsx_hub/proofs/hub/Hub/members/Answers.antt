use Rattle.std.proofs.Common.{rules}
use Rattle.rsx_hub.proofs.hub.Hub.members.Goals as goal

pub returns-clause-members : goal.returns-clause-members
returns-clause-members g c = search rules
