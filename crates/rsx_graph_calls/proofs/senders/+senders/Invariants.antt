use Rattle.std.proofs.Common.{◌≡◌, ◌+◌, ◌*◌, ◌++◌, drop, map}
use Rattle.rsx_model.specs.Shape.{nodes, sum_of}
use Rattle.rsx_graph_calls.specs.Senders.{all_senders}
use Rattle.rsx_graph_calls.proofs.senders.+senders.Given as goal

abbrev pub invariant-add_all_senders-loop-input : goal.invariant-add_all_senders-loop-input
invariant-add_all_senders-loop-input g l = l.senders.items ++ all_senders l.receiver (drop l.input-index l.inputs) ≡ l.initial.senders.items ++ all_senders l.receiver l.inputs

abbrev pub decreases-add_senders : goal.decreases-add_senders
decreases-add_senders g l = 2 * nodes l.expr.now

abbrev pub decreases-add_all_senders : goal.decreases-add_all_senders
decreases-add_all_senders g l = 2 * sum_of (map nodes l.inputs.now) + 1
