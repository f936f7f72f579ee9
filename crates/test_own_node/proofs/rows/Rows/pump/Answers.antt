use Rattle.rsx_graph_moves.proofs.Rest.{none_idle}
use Rattle.test_own_node.proofs.rows.Rows.pump.Goals as goal

pub pump-requires-clause-idle : goal.pump-requires-clause-idle
pump-requires-clause-idle g c = λ _ _. none_idle _ _ c.new-idle.result c.args.self.now.subscriptions.items c.new-idle.ensures
