use Rattle.std.proofs.Common.{◌≡◌, ◌++◌, drop}
use Rattle.rsx_merging.specs.Coming.{lanes_to_come}
use Rattle.rsx_merging.proofs.expansion.ExpansionExpanding.push_lanes.Given as goal

abbrev pub invariant-loop-item : goal.invariant-loop-item
invariant-loop-item g l =
    l.inputs.items ++ lanes_to_come (g.O.Ops.meaning l.ops) l.self.function l.self.stages.items l.next (record { items = drop l.item-index l.items; ending = l.ending })
    ≡ l.fn.inputs.items ++ lanes_to_come (g.O.Ops.meaning l.ops) l.self.function l.self.stages.items l.number (record { items = l.items; ending = l.ending })
