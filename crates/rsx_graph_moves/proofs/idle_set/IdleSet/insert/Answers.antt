use Rattle.std.proofs.Common.{inl, inr}
use Rattle.rsx_graph_state.proofs.SubscriptionSets.{small_in}
use Rattle.rsx_graph_moves.specs.IdleSet.{IsApart, IsIn}
use Rattle.rsx_graph_moves.proofs.idle_set.IdleSet.insert.Goals as goal

pub returns-clause-idle : goal.returns-clause-idle
unfolding IsIn
returns-clause-idle c = c.insert.ensures

pub returns-clause-apart : goal.returns-clause-apart
unfolding IsApart
returns-clause-apart c = λ h i known. (
  (known.0, λ was. known.1 ((c.insert-2.ensures i).1 (inl was)), known.2),
  λ same. known.1 ((c.insert-2.ensures i).1 (inr (same, small_in known.2.0 i known.2.2))),
)
