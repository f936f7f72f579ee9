use Rattle.std.proofs.Common.{rules}
use Rattle.rsx_sources.proofs.items.ItemsNodeMachine.has_ended.Goals as goal

pub returns : goal.returns
returns g c = search rules
