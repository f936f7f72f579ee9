use Rattle.std.proofs.Common.{rules}
use Rattle.rsx_link.proofs.cancel.CancelSeat.cancel.Goals as goal

pub returns-clause-cancelled : goal.returns-clause-cancelled
returns-clause-cancelled g c = search rules
