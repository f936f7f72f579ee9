use Rattle.std.proofs.Common.{◌≡◌, None}
use Rattle.std.proofs.Math.ListN.{replicate}
use Rattle.rsx_combining.proofs.latest_items.LatestItems.new.Given as goal

abbrev pub invariant-loop : goal.invariant-loop
invariant-loop g l = l.before.items ≡ replicate l.counter None
