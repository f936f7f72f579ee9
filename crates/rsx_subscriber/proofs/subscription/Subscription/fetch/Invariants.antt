use Rattle.std.specs.Prelude.{◌≡◌, ◌+◌, ℕ, []}
use Rattle.rsx_subscriber.specs.Pumped.{IsPumped}
use Rattle.rsx_subscriber.proofs.subscription.Subscription.fetch.Given as goal

abbrev pub decreases-items : goal.decreases-items
decreases-items g l = l.left

abbrev pub invariant-items : goal.invariant-items
invariant-items g l = ((n : ℕ) × (n + l.left ≡ l.budget) × IsPumped g.N.Machine g.N.Nodes (g.O.Ops.meaning l.ops) l.id n l.fn.self l.fn.out.signals l.self l.out.signals) × (l.self.queue ≡ [])
