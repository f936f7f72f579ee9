-- What a subscription is made of.
use Rattle.std.specs.Prelude.{◌≡◌}
use Rattle.rsx_subscriber.specs.declared.apart.SubscriptionParts.{SubscriptionParts}
use Rattle.rsx_subscriber.specs.declared.subscription.Subscription.{Subscription}

-- these are the parts of that subscription, each as it has it
pub record ArePartsOf {M T : Type 0} (sub : Subscription M T) (parts : SubscriptionParts M T) : Type 0 where
  pub part : parts.part ≡ sub.part
  pub queue : parts.queue ≡ sub.queue
  pub state : parts.state ≡ sub.state
  pub demand : parts.demand ≡ sub.demand
  pub live : parts.live ≡ sub.live
