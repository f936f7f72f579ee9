use Rattle.std.proofs.Common.{inl, inr, arith}
use Rattle.rsx_graph_state.specs.SubscriptionSet.{IsSkipped}
use Rattle.rsx_graph_state.proofs.skipped.Skipped.none.Goals as goal

pub returns : goal.returns
unfolding IsSkipped
returns c = λ i is. elim is [
  | inl before ↦ omega (arith, before)
  | inr rest ↦ elim rest [ inl behind ↦ let l = behind.1 in omega (arith, l) | inr has ↦ c.new.ensures i has ]
]
