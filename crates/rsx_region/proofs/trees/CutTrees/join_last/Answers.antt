use Rattle.std.proofs.Common.{[], ◌∷◌, ◌++◌, length, arith, ap, refl, ◌∙◌}
use Rattle.std.proofs.lemmas.Option.{slice_get_read}
use Rattle.rsx_region.specs.Trees.{EdgeName, names_of}
use Rattle.rsx_region.specs.declared.halves.Below.{Below}
use Rattle.rsx_region.proofs.Stages.{above_less, are_halves, joined_since, last_cannot, names_last, put_again, some_there}
use Rattle.rsx_region.proofs.trees.CutTrees.join_last.Goals as goal

pub returns-in_default-pop-clause-same : goal.returns-in_default-pop-clause-same
returns-in_default-pop-clause-same g c =
    let s = c.requires.since in
    let some = some_there g.N.Machine g.N.CrossingNodes s.meaning s.first s.hubs s.whole s.opening c.args.self.now (names_of c.pop.new.self.items) _ (names_last c.args.self.now.edges.items c.pop.new.self.items c.in-Some.edge c.in-Some.ensures.items) s.since in
    let x = some.0 in
    let none = c.in_default-pop.ensures.cases.0 in
    let k = c.args.self.now.pieces.ok.0 in
    absurd (omega (arith, x, none, k))

pub returns-in_default-pop-2-clause-same : goal.returns-in_default-pop-2-clause-same
returns-in_default-pop-2-clause-same g c =
    let s = c.requires.since in
    let some = some_there g.N.Machine g.N.CrossingNodes s.meaning s.first s.hubs s.whole s.opening c.args.self.now (names_of c.pop.new.self.items) _ (names_last c.args.self.now.edges.items c.pop.new.self.items c.in-Some.edge c.in-Some.ensures.items) s.since in
    let x = some.1 in
    let none = c.in_default-pop-2.ensures.cases.0 in
    let k = c.args.self.now.links.ok.0 in
    absurd (omega (arith, x, none, k))

pub index_mut-requires : goal.index_mut-requires
index_mut-requires g c =
    let s = c.requires.since in
    let less = above_less g.N.Machine g.N.CrossingNodes s.meaning s.first s.hubs s.whole s.opening c.args.self.now (names_of c.pop.new.self.items) _ c.pop-2.new.self.items c.in-Some-pop.piece c.pop-3.new.self.items c.in-Some-pop-2.link
    (names_last c.args.self.now.edges.items c.pop.new.self.items c.in-Some.edge c.in-Some.ensures.items) c.in-Some-pop.ensures.items c.in-Some-pop-2.ensures.items s.since in
    let k = c.pop-2.new.self.ok.0 in
    omega (arith, less, k)

pub join-requires : goal.join-requires
join-requires g c =
    let s = c.requires.since in
    let ps = c.pop-2.new.self.items in
    let named = names_last c.args.self.now.edges.items c.pop.new.self.items c.in-Some.edge c.in-Some.ensures.items in
    let less = above_less g.N.Machine g.N.CrossingNodes s.meaning s.first s.hubs s.whole s.opening c.args.self.now (names_of c.pop.new.self.items) _ ps c.in-Some-pop.piece c.pop-3.new.self.items c.in-Some-pop-2.link named c.in-Some-pop.ensures.items c.in-Some-pop-2.ensures.items s.since in
    are_halves g.N.Machine g.N.CrossingNodes s.meaning s.first s.hubs s.whole s.opening c.args.self.now (names_of c.pop.new.self.items) _ ps c.in-Some-pop.piece c.pop-3.new.self.items c.in-Some-pop-2.link named c.in-Some-pop.ensures.items c.in-Some-pop-2.ensures.items s.since
    c.index_mut.result.now (slice_get_read ps (length ps) c.in-Some.edge.above c.index_mut.result.now refl less c.index_mut.ensures.value) _ refl refl c.in-Some.edge.empty

pub returns-in-Ok-clause-since : goal.returns-in-Ok-clause-since
returns-in-Ok-clause-since g c = λ m first hubs whole opening since.
    let ps = c.pop-2.new.self.items in
    let named = names_last c.args.self.now.edges.items c.pop.new.self.items c.in-Some.edge c.in-Some.ensures.items in
    let less = above_less g.N.Machine g.N.CrossingNodes m first hubs whole opening c.args.self.now (names_of c.pop.new.self.items) _ ps c.in-Some-pop.piece c.pop-3.new.self.items c.in-Some-pop-2.link named c.in-Some-pop.ensures.items c.in-Some-pop-2.ensures.items since in
    joined_since g.N.Machine g.N.CrossingNodes m first hubs whole opening c.args.self.now (names_of c.pop.new.self.items) _ ps c.in-Some-pop.piece c.pop-3.new.self.items c.in-Some-pop-2.link named c.in-Some-pop.ensures.items c.in-Some-pop-2.ensures.items since
    c.index_mut.result.now (slice_get_read ps (length ps) c.in-Some.edge.above c.index_mut.result.now refl less c.index_mut.ensures.value) c.join.new.self c.in-Ok.ensures.joined _ refl refl refl c.in-Ok.ensures.ends
    (λ was h up low stands. c.in-Ok.ensures.stands m first hubs was _ h (record { at = refl; upper = up; lower = low }) stands)

pub returns-in-Err-clause-same : goal.returns-in-Err-clause-same
returns-in-Err-clause-same g c =
    let s = c.requires.since in
    let ps = c.pop-2.new.self.items in
    let rest = names_of c.pop.new.self.items in
    let named = names_last c.args.self.now.edges.items c.pop.new.self.items c.in-Some.edge c.in-Some.ensures.items in
    let less = above_less g.N.Machine g.N.CrossingNodes s.meaning s.first s.hubs s.whole s.opening c.args.self.now rest _ ps c.in-Some-pop.piece c.pop-3.new.self.items c.in-Some-pop-2.link named c.in-Some-pop.ensures.items c.in-Some-pop-2.ensures.items s.since in
    let err = c.in-Err.ensures.err in
    put_again c.args.self.now c.put_behind.new.self ps c.in-Some-pop.piece c.index_mut.result.now c.join.new.self c.pop-3.new.self.items c.in-Some-pop-2.link rest _ c.in-Some.edge.above c.in-Err.below c.in-Some-pop.ensures.items c.in-Some-pop-2.ensures.items named
    (slice_get_read ps (length ps) c.in-Some.edge.above c.index_mut.result.now refl less c.index_mut.ensures.value) c.in-Err.ensures.same (ap (λ (b : Below _ _). b.piece) err) (ap (λ (b : Below _ _). b.link) err) c.put_behind.ensures.pieces c.put_behind.ensures.links
    (c.put_behind.ensures.edges ∙ ap (λ (b : Below _ _). rest ++ (let n : EdgeName = record { above = c.in-Some.edge.above; at = b.at } in n) ∷ []) err)

pub returns-in_default-pop-2-clause-refused : goal.returns-in_default-pop-2-clause-refused
returns-in_default-pop-2-clause-refused g c =
    let s = c.requires.since in
    let some = some_there g.N.Machine g.N.CrossingNodes s.meaning s.first s.hubs s.whole s.opening c.args.self.now (names_of c.pop.new.self.items) _ (names_last c.args.self.now.edges.items c.pop.new.self.items c.in-Some.edge c.in-Some.ensures.items) s.since in
    let x = some.1 in
    let none = c.in_default-pop-2.ensures.cases.0 in
    let k = c.args.self.now.links.ok.0 in
    absurd (omega (arith, x, none, k))

pub returns-in-Err-clause-refused : goal.returns-in-Err-clause-refused
returns-in-Err-clause-refused g c =
    let s = c.requires.since in
    let ps = c.pop-2.new.self.items in
    let rest = names_of c.pop.new.self.items in
    let named = names_last c.args.self.now.edges.items c.pop.new.self.items c.in-Some.edge c.in-Some.ensures.items in
    let less = above_less g.N.Machine g.N.CrossingNodes s.meaning s.first s.hubs s.whole s.opening c.args.self.now rest _ ps c.in-Some-pop.piece c.pop-3.new.self.items c.in-Some-pop-2.link named c.in-Some-pop.ensures.items c.in-Some-pop-2.ensures.items s.since in
    last_cannot g.N.Machine g.N.CrossingNodes c.args.self.now rest _ ps c.index_mut.result.now c.in-Some-pop.piece named c.in-Some-pop.ensures.items (slice_get_read ps (length ps) c.in-Some.edge.above c.index_mut.result.now refl less c.index_mut.ensures.value) c.in-Err.ensures.refused
