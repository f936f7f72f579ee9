use Rattle.std.proofs.Common.{rules}
use Rattle.rsx_hub.proofs.hub.Hub.member.Goals as goal

pub loop-item-init : goal.loop-item-init
loop-item-init g c = search rules

pub returns-clause-made : goal.returns-clause-made
returns-clause-made g c = search rules
