use Rattle.std.proofs.Common.{refl}
use Rattle.rsx_serialized.proofs.Goes.{both_go}
use Rattle.rsx_serialized.proofs.Regions.{inlet_at, inlet_only, take_step}
use Rattle.rsx_serialized.proofs.Rounds.{busy_by, publishes_work}
use Rattle.rsx_serialized.proofs.region.GraphRegion.take_at.Goals as goal

pub returns-clause-goes : goal.returns-clause-goes
returns-clause-goes g c =
    let is = c.args.self.now.inlets.items in
    both_go c.args.links.now _ c.args.self.now _
    (take_step c.args.links.now c.args.self.now _ c.args.at c.take_next.result c.index_mut.result.now c.take_next.new.inlet c.requires.ends c.take_next.ensures.ops c.take_next.ensures.joins c.take_next.ensures.takes refl refl refl (inlet_at is c.args.at c.index_mut.result.now c.requires.there c.index_mut.ensures.value)
    (inlet_only c.args.links.now.emitters.items is c.args.at c.index.result.now c.take_next.new.inlet c.requires.ends.inlets c.requires.there c.index.ensures c.take_next.ensures.end) refl)

pub returns-clause-busy : goal.returns-clause-busy
returns-clause-busy g c e =
    let is = c.args.self.now.inlets.items in
    let t = c.take_next.ensures.takes in
    busy_by c.args.links.now _ c.args.self.now _
    (take_step c.args.links.now c.args.self.now _ c.args.at c.take_next.result c.index_mut.result.now c.take_next.new.inlet c.requires.ends c.take_next.ensures.ops c.take_next.ensures.joins t refl refl refl (inlet_at is c.args.at c.index_mut.result.now c.requires.there c.index_mut.ensures.value)
    (inlet_only c.args.links.now.emitters.items is c.args.at c.index.result.now c.take_next.new.inlet c.requires.ends.inlets c.requires.there c.index.ensures c.take_next.ensures.end) refl)
    (publishes_work c.index_mut.result.now.hub t.signals (t.some e))

pub returns-clause-none : goal.returns-clause-none
returns-clause-none g c e = let rests = c.take_next.ensures.rests e in record { inlet = c.take_next.new.inlet; put = refl; same = rests.0; left = rests.1 }
