use Rattle.std.proofs.Common.{◌-◌}
use Rattle.rsx_sources.specs.Prelude.{Meaning}
use Rattle.rsx_graph_moves.specs.Resting.{AreIdle}
use Rattle.rsx_graph_moves.proofs.waking.look_for_readers.Given as goal

abbrev pub invariant-looks : goal.invariant-looks
invariant-looks g l = (m : Meaning _) → AreIdle g.N.Machine m l.fn.idle l.subscriptions.items → AreIdle g.N.Machine m l.idle l.subscriptions.items

abbrev pub decreases-looks : goal.decreases-looks
decreases-looks g l = l.count - l.at
