use Rattle.std.proofs.Common.{◌≡◌, ◌<◌, ◌+◌, ◌-◌, ℕ, length}
use Rattle.rsx_graph_state.specs.Pumped.{AllPumped, AreQuiet}
use Rattle.rsx_graph_moves.specs.IdleSet.{IsIn}
use Rattle.rsx_graph_moves.specs.Resting.{AreIdle}
use Rattle.rsx_graph_state.specs.declared.subscription_set.TheConstants.{MOST_IN_SET}
use Rattle.rsx_graph_moves.proofs.subscriptions.drive.Given as goal

abbrev pub invariant-turns : goal.invariant-turns
invariant-turns g l = record {
  count : length l.subscriptions.items ≡ length l.fn.subscriptions.items;
  pumped : (n : ℕ) × (n + l.left ≡ l.fn.budget) × AllPumped g.N.Machine g.N.Nodes (g.O.Ops.meaning l.ops) n l.fn.subscriptions.items l.fn.out.signals l.subscriptions.items l.out.signals;
  quiet : AreQuiet g.N.Machine (g.O.Ops.meaning l.ops) l.subscriptions.items l.at;
  idle : AreIdle g.N.Machine (g.O.Ops.meaning l.ops) l.idle l.subscriptions.items;
  outside : IsIn l.idle l.at → ⊥;
  known : (i : ℕ) → i < l.at → i < MOST_IN_SET → IsIn l.idle i;
}

abbrev pub decreases-turns : goal.decreases-turns
decreases-turns g l = l.count - l.at
