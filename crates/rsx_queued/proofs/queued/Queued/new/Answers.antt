use Rattle.std.proofs.Common.{rules}
use Rattle.rsx_queued.proofs.queued.Queued.new.Goals as goal

pub returns-clause-tail : goal.returns-clause-tail
returns-clause-tail g c = search rules
