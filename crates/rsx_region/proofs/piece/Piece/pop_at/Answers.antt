use Rattle.std.proofs.Common.{refl}
use Rattle.std.proofs.lemmas.List.{length-set}
use Rattle.rsx_region.specs.declared.piece.Incoming.{Incoming}
use Rattle.rsx_region.proofs.Ends.{ends_one}
use Rattle.rsx_region.proofs.Places.{inlet_same, inlet_there, link_there, read_there}
use Rattle.rsx_region.proofs.Singles.{popped_goes, popped_left}
use Rattle.rsx_region.proofs.Stands.{stands_popped}
use Rattle.rsx_region.proofs.piece.Piece.pop_at.Goals as goal

pub link_at-link-requires : goal.link_at-link-requires
link_at-link-requires g c = let h = link_there c.args.links.now c.args.self.now c.args.at c.index_mut-incoming.result.now c.requires.ends c.requires.there c.index_mut-incoming.ensures.value in (h.0, h.1, tt)

pub pop-requires : goal.pop-requires
pop-requires g c = (inlet_there c.args.links.now c.args.self.now c.args.at c.index_mut-incoming.result.now c.link_at-link.result.now c.requires.ends c.requires.there c.index_mut-incoming.ensures.value c.link_at-link.ensures).0

pub returns-clause-ends : goal.returns-clause-ends
returns-clause-ends g c =
    let was = c.index_mut-incoming.result.now in
    let is : Incoming g.row.T.Denot = record { link = was.link; inlet = c.pop.new.self } in
    let end = c.pop.ensures.end in
    let of = inlet_there c.args.links.now c.args.self.now c.args.at was c.link_at-link.result.now c.requires.ends c.requires.there c.index_mut-incoming.ensures.value c.link_at-link.ensures in
    ends_one c.args.links.now c.args.self.now _ c.args.at was is c.link_at-link.result.now c.link_at-link.ensures (record { there = read_there c.args.self.now c.args.at was c.requires.there c.index_mut-incoming.ensures.value; put = refl; number = refl; hub = end.1; carried = end.4; link = refl; up = refl }) (inlet_same c.link_at-link.result.now was.inlet is.inlet end of) (c.pop.ensures.step c.args.self.now.up c.requires.ends.step) c.requires.ends

pub returns-clause-run : goal.returns-clause-run
returns-clause-run g c m =
    let was = c.index_mut-incoming.result.now in
    let is : Incoming g.row.T.Denot = record { link = was.link; inlet = c.pop.new.self } in
    let end = c.pop.ensures.end in
    popped_goes g.N.Machine m c.args.links.now c.args.self.now _ c.link_at-link.result.now c.args.at was is c.pop.result (record { there = read_there c.args.self.now c.args.at was c.requires.there c.index_mut-incoming.ensures.value; put = refl; number = refl; hub = end.1; carried = end.4; link = refl; up = refl }) end c.pop.ensures.popped c.pop.ensures.left c.pop.ensures.same

pub returns-clause-count : goal.returns-clause-count
returns-clause-count g c = length-set c.args.self.now.inlets.items c.args.at _

pub returns-clause-left : goal.returns-clause-left
returns-clause-left g c =
    let was = c.index_mut-incoming.result.now in
    let is : Incoming g.row.T.Denot = record { link = was.link; inlet = c.pop.new.self } in
    let end = c.pop.ensures.end in
    popped_left g.N.Machine c.args.self.now _ c.link_at-link.result.now c.args.at was is c.pop.result (record { there = read_there c.args.self.now c.args.at was c.requires.there c.index_mut-incoming.ensures.value; put = refl; number = refl; hub = end.1; carried = end.4; link = refl; up = refl }) end c.pop.ensures.left

pub returns-clause-stands : goal.returns-clause-stands
returns-clause-stands g c m hubs opening h =
    let was = c.index_mut-incoming.result.now in
    let is : Incoming g.row.T.Denot = record { link = was.link; inlet = c.pop.new.self } in
    let end = c.pop.ensures.end in
    stands_popped g.N.Machine m hubs opening c.args.self.now _ c.args.at was is (record { there = read_there c.args.self.now c.args.at was c.requires.there c.index_mut-incoming.ensures.value; put = refl; number = refl; hub = end.1; carried = end.4; link = refl; up = refl }) c.requires.ends.apart
    (λ taken old queued up come k. c.pop.ensures.stands m taken old queued up come k) (λ taken k. c.pop.ensures.own taken k) (λ taken other apart come k. c.pop.ensures.others taken other apart come k) h
