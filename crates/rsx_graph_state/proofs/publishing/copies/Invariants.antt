use Rattle.std.proofs.Common.{◌≡◌, ◌≤◌, Some, vec_len, vec_capacity}
use Rattle.rsx_types.specs.declared.signal.Signal.{Signal}
use Rattle.rsx_hub.specs.Hub.{waiting}
use Rattle.rsx_tree.specs.Handed.{times}
use Rattle.rsx_graph_state.proofs.publishing.copies.Given as goal

abbrev pub invariant-loop-made : goal.invariant-loop-made
invariant-loop-made g l = record {
  room : l.readers ≤ vec_capacity l.signals;
  few : vec_len l.signals ≡ l.made;
  signals : (s : Signal g.row.O-Item.Denot) → waiting l.hub ≡ Some s → l.signals.items ≡ times l.made s;
}
