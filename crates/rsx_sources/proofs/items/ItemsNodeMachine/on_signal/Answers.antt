use Rattle.std.proofs.Common.{rules}
use Rattle.rsx_sources.proofs.items.ItemsNodeMachine.on_signal.Goals as goal

pub returns-clause-enabled : goal.returns-clause-enabled
returns-clause-enabled g c = search rules
