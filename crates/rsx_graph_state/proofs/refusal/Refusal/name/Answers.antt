use Rattle.std.proofs.Common.{rules}
use Rattle.rsx_graph_state.proofs.refusal.Refusal.name.Goals as goal

pub returns-in-NoMemory : goal.returns-in-NoMemory
returns-in-NoMemory c = search rules
