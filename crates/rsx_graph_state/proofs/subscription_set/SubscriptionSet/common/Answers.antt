use Rattle.rsx_graph_state.specs.SubscriptionSet.{IsIn}
use Rattle.rsx_graph_state.proofs.SubscriptionSets.{bit_common}
use Rattle.rsx_graph_state.proofs.subscription_set.SubscriptionSet.common.Goals as goal

pub returns : goal.returns
unfolding IsIn
returns c = λ i. (
  λ has. let k = (bit_common c.args.self.now.words c.args.other.now.words i has.0).0 has.1 in ((has.0, k.0), (has.0, k.1)),
  λ both. (both.0.0, (bit_common c.args.self.now.words c.args.other.now.words i both.0.0).1 (both.0.1, both.1.1)),
)
