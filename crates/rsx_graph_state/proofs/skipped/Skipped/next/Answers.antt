use Rattle.std.proofs.Common.{inl, inr, arith}
use Rattle.rsx_graph_state.specs.SubscriptionSet.{IsSkipped}
use Rattle.rsx_graph_state.proofs.skipped.Skipped.next.Goals as goal

pub returns-then-from-self-clause-passed : goal.returns-then-from-self-clause-passed
unfolding IsSkipped
returns-then-from-self-clause-passed c = λ i low high. inl high

pub returns-then-from-self-2-clause-passed : goal.returns-then-from-self-2-clause-passed
unfolding IsSkipped
returns-then-from-self-2-clause-passed c = λ i low high. let behind = c.if-from-self-2.true in inr (inl (omega (arith, behind, low), omega (arith, behind, low, high)))

pub returns-clause-passed : goal.returns-clause-passed
unfolding IsSkipped
returns-clause-passed c = λ i low high. inr (inr (c.next_outside.ensures.first i low high))
