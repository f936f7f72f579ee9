use Rattle.std.proofs.Common.{rules}
use Rattle.rsx_hub.proofs.Lists.{nothing_first}
use Rattle.rsx_hub.proofs.hub.Hub.accept.Goals as goal

pub take_ending-requires : goal.take_ending-requires
take_ending-requires g c = nothing_first c.args.self.now.inbox c.in-None.ensures

pub returns-in_ok-copy-in-Some-clause-signal : goal.returns-in_ok-copy-in-Some-clause-signal
returns-in_ok-copy-in-Some-clause-signal g c = search rules

pub returns-in_ok-copy-in-Some-clause-state : goal.returns-in_ok-copy-in-Some-clause-state
returns-in_ok-copy-in-Some-clause-state g c = search rules
