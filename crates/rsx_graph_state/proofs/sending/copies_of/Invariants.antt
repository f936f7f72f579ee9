use Rattle.std.proofs.Common.{◌≡◌, ◌≤◌, vec_len, vec_capacity}
use Rattle.rsx_tree.specs.Handed.{times}
use Rattle.rsx_graph_state.proofs.sending.copies_of.Given as goal

abbrev pub invariant-loop-made : goal.invariant-loop-made
invariant-loop-made g l = record {
  room : l.readers ≤ vec_capacity l.signals;
  few : vec_len l.signals ≡ l.made;
  signals : l.signals.items ≡ times l.made l.signal;
}
