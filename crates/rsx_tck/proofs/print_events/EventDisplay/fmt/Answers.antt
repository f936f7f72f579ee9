use Rattle.std.proofs.Common.{rules}
use Rattle.rsx_tck.proofs.print_events.EventDisplay.fmt.Goals as goal

pub returns-in-CancelNew-clause-writes : goal.returns-in-CancelNew-clause-writes
returns-in-CancelNew-clause-writes g c = search rules
