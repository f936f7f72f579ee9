use Rattle.std.specs.Prelude.{◌≡◌}
use Rattle.rsx_types.specs.Meaning.{Meaning}
use Rattle.rsx_subscriber.specs.Pumped.{IsPumped}
use Rattle.rsx_subscriber.proofs.subscription.Subscription.deliver_queued.Given as goal

abbrev pub invariant-loop-made : goal.invariant-loop-made
invariant-loop-made g l = ((m : Meaning _) → IsPumped g.N.Machine g.N.Nodes m l.id l.made l.fn.self l.fn.out.signals l.self l.out.signals) × (l.made ≡ 0 → l.self ≡ l.fn.self)
