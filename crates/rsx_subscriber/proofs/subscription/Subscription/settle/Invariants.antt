use Rattle.std.specs.Prelude.{◌≡◌, ◌+◌, ◌≤◌, ℕ}
use Rattle.rsx_subscriber.specs.Pumped.{IsPumped}
use Rattle.rsx_subscriber.proofs.subscription.Subscription.settle.Given as goal

abbrev pub invariant-loop-round : goal.invariant-loop-round
invariant-loop-round g l = (l.left + l.round ≤ l.budget) × ((n : ℕ) × (n + l.left ≡ l.budget) × IsPumped g.N.Machine g.N.Nodes (g.O.Ops.meaning l.ops) l.id n l.fn.self l.fn.out.signals l.self l.out.signals)
