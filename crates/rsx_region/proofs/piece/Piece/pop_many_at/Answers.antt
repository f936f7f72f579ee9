use Rattle.std.proofs.Common.{refl}
use Rattle.rsx_region.specs.declared.piece.Incoming.{Incoming}
use Rattle.rsx_region.proofs.Ends.{ends_one}
use Rattle.rsx_region.proofs.Places.{inlet_same, inlet_there, link_there, read_there}
use Rattle.rsx_region.proofs.Pops.{in_step_all, popped_many}
use Rattle.rsx_region.proofs.piece.Piece.pop_many_at.Goals as goal

pub link_at-link-requires : goal.link_at-link-requires
link_at-link-requires g c = let h = link_there c.args.links.now c.args.self.now c.args.at c.index_mut-incoming.result.now c.requires.ends c.requires.there c.index_mut-incoming.ensures.value in (h.0, h.1, tt)

pub pop_many-requires : goal.pop_many-requires
pop_many-requires g c = (inlet_there c.args.links.now c.args.self.now c.args.at c.index_mut-incoming.result.now c.link_at-link.result.now c.requires.ends c.requires.there c.index_mut-incoming.ensures.value c.link_at-link.ensures).0

pub returns-clause-ends : goal.returns-clause-ends
returns-clause-ends g c =
    let was = c.index_mut-incoming.result.now in
    let is : Incoming g.row.T.Denot = record { link = was.link; inlet = c.pop_many.new.self } in
    let end = c.pop_many.ensures.end in
    let of = inlet_there c.args.links.now c.args.self.now c.args.at was c.link_at-link.result.now c.requires.ends c.requires.there c.index_mut-incoming.ensures.value c.link_at-link.ensures in
    let popped = c.pop_many.ensures.popped in
    ends_one c.args.links.now c.args.self.now _ c.args.at was is c.link_at-link.result.now c.link_at-link.ensures (record { there = read_there c.args.self.now c.args.at was c.requires.there c.index_mut-incoming.ensures.value; put = refl; number = refl; hub = end.1; carried = end.4; link = refl; up = refl }) (inlet_same c.link_at-link.result.now was.inlet is.inlet end of)
    (in_step_all g.N.Machine was.inlet.hub popped.items c.args.self.now.part c.pop_many.new.part c.args.self.now.up popped.handed c.requires.ends.step) c.requires.ends

pub returns-clause-run : goal.returns-clause-run
returns-clause-run g c m =
    let was = c.index_mut-incoming.result.now in
    let is : Incoming g.row.T.Denot = record { link = was.link; inlet = c.pop_many.new.self } in
    let end = c.pop_many.ensures.end in
    (popped_many g.N.Machine m c.args.links.now c.link_at-link.result.now c.pop_many.result c.args.self.now _ c.args.at was is (record { there = read_there c.args.self.now c.args.at was c.requires.there c.index_mut-incoming.ensures.value; put = refl; number = refl; hub = end.1; carried = end.4; link = refl; up = refl }) end c.requires.ends.apart c.pop_many.ensures.popped).go

pub returns-clause-stands : goal.returns-clause-stands
returns-clause-stands g c m hubs opening h =
    let was = c.index_mut-incoming.result.now in
    let is : Incoming g.row.T.Denot = record { link = was.link; inlet = c.pop_many.new.self } in
    let end = c.pop_many.ensures.end in
    (popped_many g.N.Machine m c.args.links.now c.link_at-link.result.now c.pop_many.result c.args.self.now _ c.args.at was is (record { there = read_there c.args.self.now c.args.at was c.requires.there c.index_mut-incoming.ensures.value; put = refl; number = refl; hub = end.1; carried = end.4; link = refl; up = refl }) end c.requires.ends.apart c.pop_many.ensures.popped).stands hubs opening h
