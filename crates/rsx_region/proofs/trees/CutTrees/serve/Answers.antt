use Rattle.std.proofs.Common.{List, refl, length, slice_set, subst, sym}
use Rattle.std.proofs.lemmas.Option.{slice_get_read}
use Rattle.rsx_link.specs.declared.link.Link.{Link}
use Rattle.rsx_region.specs.Pieces.{IsPieceOf}
use Rattle.rsx_region.specs.Regions.{RegionGoes}
use Rattle.rsx_region.proofs.Regions.{pieces_one, region_goes_one, region_stands_one}
use Rattle.rsx_region.proofs.trees.CutTrees.serve.Goals as goal

pub serve-requires-after_bounds : goal.serve-requires-after_bounds
serve-requires-after_bounds g c κs within =
    let P : List (Link _) → Type 0 = λ ls. IsPieceOf ls c.index_mut.result.now in
    subst P (sym c.deref.ensures.value) (c.requires.ends c.args.at c.index_mut.result.now (slice_get_read c.args.self.now.pieces.items (length c.args.self.now.pieces.items) c.args.at c.index_mut.result.now refl c.requires.there c.index_mut.ensures.value))

pub returns-clause-ends : goal.returns-clause-ends
returns-clause-ends g c =
    let P : List (Link _) → Type 0 = λ ls. IsPieceOf ls c.serve.new.self in
    pieces_one c.args.self.now.links.items c.args.self.now.pieces.items c.args.at c.serve.new.self (subst P c.deref.ensures.value c.serve.ensures.ends) c.requires.ends

pub returns-clause-run : goal.returns-clause-run
returns-clause-run g c =
    let ps = c.args.self.now.pieces.items in
    let was = c.index_mut.result.now in
    let m = g.O.Ops.meaning c.args.ops.now in
    let R : List (Link _) → Type 0 = λ ls. RegionGoes g.N.Machine m ls c.serve.result.moves c.serve.result.pops ps (slice_set ps c.args.at c.serve.new.self) in
    subst R c.deref.ensures.value (region_goes_one g.N.Machine m c.deref.result.now c.serve.result.moves c.serve.result.pops ps c.args.at was c.serve.new.self (slice_get_read ps (length ps) c.args.at was refl c.requires.there c.index_mut.ensures.value) c.serve.ensures.run)

pub returns-clause-idle : goal.returns-clause-idle
returns-clause-idle g c e = record { is = c.serve.new.self; put = refl; rests = c.serve.ensures.idle e }

pub returns-clause-since : goal.returns-clause-since
unfolding returns-clause-ends
returns-clause-since g c = λ first hubs whole opening h.
    let ps = c.args.self.now.pieces.items in
    let was = c.index_mut.result.now in
    record {
      run = h.run;
      links = h.links;
      ends = returns-clause-ends g c;
      stands = region_stands_one g.N.Machine (g.O.Ops.meaning c.args.ops.now) hubs opening.pieces ps c.args.at was c.serve.new.self (slice_get_read ps (length ps) c.args.at was refl c.requires.there c.index_mut.ensures.value) (λ o k. c.serve.ensures.stands hubs o k) h.stands;
    }
