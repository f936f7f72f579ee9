use Rattle.rsx_graph_state.specs.SubscriptionSet.{IsIn}
use Rattle.rsx_graph_state.proofs.SubscriptionSets.{bit_others}
use Rattle.rsx_graph_state.proofs.subscription_set.SubscriptionSet.others.Goals as goal

pub returns : goal.returns
unfolding IsIn
returns c = λ i. (
  λ has. (has.0, λ other. (bit_others c.args.self.now.words i has.0).0 has.1 other.1),
  λ both. (both.0, (bit_others c.args.self.now.words i both.0).1 (λ on. both.1 (both.0, on))),
)
