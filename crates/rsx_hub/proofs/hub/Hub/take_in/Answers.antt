use Rattle.std.proofs.Common.{rules}
use Rattle.rsx_hub.proofs.hub.Hub.take_in.Goals as goal

pub returns-in-Next-clause-enabled : goal.returns-in-Next-clause-enabled
returns-in-Next-clause-enabled g c = search rules

pub returns-in-Next-clause-ok : goal.returns-in-Next-clause-ok
returns-in-Next-clause-ok g c = search rules
