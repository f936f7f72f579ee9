use Rattle.std.proofs.Common.{refl}
use Rattle.rsx_region.specs.declared.piece.Incoming.{Incoming}
use Rattle.rsx_region.proofs.Ends.{ends_one}
use Rattle.rsx_region.proofs.Places.{inlet_there, link_there, read_there}
use Rattle.rsx_region.proofs.Singles.{asked_goes, asked_passed}
use Rattle.rsx_region.proofs.Stands.{stands_asked}
use Rattle.rsx_region.proofs.piece.Piece.ask_at.Goals as goal

pub link_at-link-requires : goal.link_at-link-requires
link_at-link-requires g c = let h = link_there c.args.links.now c.args.self.now c.args.at c.index_mut-incoming.result.now c.requires.ends c.requires.there c.index_mut-incoming.ensures.value in (h.0, h.1, tt)

pub ask-requires : goal.ask-requires
ask-requires g c = inlet_there c.args.links.now c.args.self.now c.args.at c.index_mut-incoming.result.now c.link_at-link.result.now c.requires.ends c.requires.there c.index_mut-incoming.ensures.value c.link_at-link.ensures

pub returns-clause-ends : goal.returns-clause-ends
returns-clause-ends g c =
    let was = c.index_mut-incoming.result.now in
    let is : Incoming g.row.T.Denot = record { link = was.link; inlet = c.ask.new.self } in
    let end = c.ask.ensures.end in
    ends_one c.args.links.now c.args.self.now _ c.args.at was is c.link_at-link.result.now c.link_at-link.ensures (record { there = read_there c.args.self.now c.args.at was c.requires.there c.index_mut-incoming.ensures.value; put = refl; number = refl; hub = end.2; carried = end.0.3; link = refl; up = refl }) (end.0.0, end.1.0) c.requires.ends.step c.requires.ends

pub returns-clause-run : goal.returns-clause-run
returns-clause-run g c m =
    let was = c.index_mut-incoming.result.now in
    let is : Incoming g.row.T.Denot = record { link = was.link; inlet = c.ask.new.self } in
    let end = c.ask.ensures.end in
    asked_goes g.N.Machine m c.args.links.now c.args.self.now _ c.link_at-link.result.now c.args.at was is (record { there = read_there c.args.self.now c.args.at was c.requires.there c.index_mut-incoming.ensures.value; put = refl; number = refl; hub = end.2; carried = end.0.3; link = refl; up = refl }) refl end c.ask.ensures.asked

pub returns-clause-asked : goal.returns-clause-asked
returns-clause-asked g c =
    let was = c.index_mut-incoming.result.now in
    let is : Incoming g.row.T.Denot = record { link = was.link; inlet = c.ask.new.self } in
    let end = c.ask.ensures.end in
    asked_passed g.N.Machine c.args.self.now _ c.args.at was is (record { there = read_there c.args.self.now c.args.at was c.requires.there c.index_mut-incoming.ensures.value; put = refl; number = refl; hub = end.2; carried = end.0.3; link = refl; up = refl }) refl c.ask.ensures.asked

pub returns-clause-stands : goal.returns-clause-stands
returns-clause-stands g c m hubs opening h =
    let was = c.index_mut-incoming.result.now in
    let is : Incoming g.row.T.Denot = record { link = was.link; inlet = c.ask.new.self } in
    let end = c.ask.ensures.end in
    stands_asked g.N.Machine m hubs opening c.args.self.now _ c.args.at was is (record { there = read_there c.args.self.now c.args.at was c.requires.there c.index_mut-incoming.ensures.value; put = refl; number = refl; hub = end.2; carried = end.0.3; link = refl; up = refl }) refl end.0.1 (λ taken k. c.ask.ensures.stands taken k) h
