use Rattle.rsx_graph_state.specs.SubscriptionSet.{IsIn}
use Rattle.rsx_graph_state.proofs.SubscriptionSets.{no_bit}
use Rattle.rsx_graph_state.proofs.subscription_set.SubscriptionSet.clear.Goals as goal

pub returns : goal.returns
unfolding IsIn
returns c = λ i has. no_bit i has.1
