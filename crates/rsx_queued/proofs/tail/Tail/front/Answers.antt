use Rattle.std.proofs.Common.{rules}
use Rattle.rsx_queued.proofs.tail.Tail.front.Goals as goal

pub returns-in-Completion : goal.returns-in-Completion
returns-in-Completion c = search rules
