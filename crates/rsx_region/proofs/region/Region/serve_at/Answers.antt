use Rattle.std.proofs.Common.{refl, length}
use Rattle.std.proofs.lemmas.Option.{slice_get_read}
use Rattle.rsx_region.proofs.Regions.{pieces_one, region_goes_one, region_stands_one}
use Rattle.rsx_region.proofs.region.Region.serve_at.Goals as goal

pub serve_by-requires-after_bounds : goal.serve_by-requires-after_bounds
serve_by-requires-after_bounds g c κs within = c.requires.ends c.args.at c.index_mut.result.now (slice_get_read c.args.self.now.pieces.items (length c.args.self.now.pieces.items) c.args.at c.index_mut.result.now refl c.requires.there c.index_mut.ensures.value)

pub returns-clause-ends : goal.returns-clause-ends
returns-clause-ends g c = pieces_one c.args.links.now c.args.self.now.pieces.items c.args.at c.serve_by.new.self c.serve_by.ensures.ends c.requires.ends

pub returns-clause-run : goal.returns-clause-run
returns-clause-run g c =
    let ps = c.args.self.now.pieces.items in
    let was = c.index_mut.result.now in
    region_goes_one g.N.Machine (g.O.Ops.meaning c.args.ops.now) c.args.links.now c.serve_by.result.moves c.serve_by.result.pops ps c.args.at was c.serve_by.new.self (slice_get_read ps (length ps) c.args.at was refl c.requires.there c.index_mut.ensures.value) c.serve_by.ensures.run

pub returns-clause-idle : goal.returns-clause-idle
returns-clause-idle g c e = record { is = c.serve_by.new.self; put = refl; rests = c.serve_by.ensures.idle e }

pub returns-clause-stands : goal.returns-clause-stands
returns-clause-stands g c hubs opening h =
    let ps = c.args.self.now.pieces.items in
    let was = c.index_mut.result.now in
    region_stands_one g.N.Machine (g.O.Ops.meaning c.args.ops.now) hubs opening ps c.args.at was c.serve_by.new.self (slice_get_read ps (length ps) c.args.at was refl c.requires.there c.index_mut.ensures.value) (λ o k. c.serve_by.ensures.stands hubs o k) h
