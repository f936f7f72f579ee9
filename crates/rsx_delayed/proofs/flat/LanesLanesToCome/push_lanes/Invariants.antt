use Rattle.std.proofs.Common.{◌≡◌, ◌++◌, drop}
use Rattle.rsx_merging.specs.Coming.{lanes_to_come}
use Rattle.rsx_delayed.proofs.flat.LanesLanesToCome.push_lanes.Given as goal

abbrev pub invariant-loop-item : goal.invariant-loop-item
invariant-loop-item g l =
    l.self ++ lanes_to_come (g.O.Ops.meaning l.ops) l.expansion.function l.expansion.stages.items l.next (record { items = drop l.item-index l.items; ending = l.ending })
    ≡ l.fn.self ++ lanes_to_come (g.O.Ops.meaning l.ops) l.expansion.function l.expansion.stages.items l.number (record { items = l.items; ending = l.ending })
