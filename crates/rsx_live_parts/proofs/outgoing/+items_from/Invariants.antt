use Rattle.std.proofs.Common.{length, ◌-◌}
use Rattle.rsx_live_parts.proofs.outgoing.+items_from.Given as goal

abbrev pub decreases-items_from : goal.decreases-items_from
decreases-items_from g l = length l.queue.now - l.at
