use Rattle.std.proofs.Common.{◌≡◌}
use Rattle.rsx_rooted.proofs.Counted.{joined_up}
use Rattle.rsx_rooted.proofs.places.count_in.Given as goal

abbrev pub invariant-loop-number : goal.invariant-loop-number
invariant-loop-number g l = l.hubs.items ≡ joined_up 0 l.expr l.number l.fn.hubs.items
