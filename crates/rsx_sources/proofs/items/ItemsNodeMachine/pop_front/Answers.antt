use Rattle.std.proofs.Common.{rules}
use Rattle.rsx_sources.proofs.items.ItemsNodeMachine.pop_front.Goals as goal

pub returns-clause-memory : goal.returns-clause-memory
returns-clause-memory g c = search rules
