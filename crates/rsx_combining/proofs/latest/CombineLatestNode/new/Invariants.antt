use Rattle.std.proofs.Common.{◌≡◌}
use Rattle.std.proofs.Math.ListN.{replicate}
use Rattle.rsx_queued.specs.Input.{fresh_input}
use Rattle.rsx_combining.proofs.latest.CombineLatestNode.new.Given as goal

abbrev pub invariant-loop : goal.invariant-loop
invariant-loop g l = l.queues.items ≡ replicate l.counter (fresh_input l.capacity)
