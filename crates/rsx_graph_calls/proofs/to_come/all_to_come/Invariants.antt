use Rattle.std.proofs.Common.{[], take}
use Rattle.rsx_graph_calls.specs.ToCome.{AreToCome}
use Rattle.rsx_graph_calls.proofs.to_come.all_to_come.Given as goal

abbrev pub invariant-loop-hub : goal.invariant-loop-hub
invariant-loop-hub g l = AreToCome g.N.Machine (g.O.Ops.meaning l.ops) l.feeds [] (take l.hub-index l.hubs) l.all.items
