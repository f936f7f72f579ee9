use Rattle.std.specs.Prelude.{◌≡◌, ◌+◌, ℕ, []}
use Rattle.rsx_subscriber.specs.Pumped.{IsPumped}
use Rattle.rsx_subscriber.proofs.subscription.Subscription.fetch_batches.Given as goal

abbrev pub decreases-batches : goal.decreases-batches
decreases-batches g l = l.left

abbrev pub invariant-batches : goal.invariant-batches
invariant-batches g l = ((n : ℕ) × (n + l.left ≡ l.fn.left) × IsPumped g.N.Machine g.N.Nodes (g.O.Ops.meaning l.ops) l.id n l.fn.self l.fn.out.signals l.self l.out.signals) × (l.self.queue ≡ [])
