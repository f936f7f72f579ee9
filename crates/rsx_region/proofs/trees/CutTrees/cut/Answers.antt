use Rattle.std.proofs.Common.{inr, ◌≡◌, ◌<◌, ℕ, [], ◌∷◌, ◌++◌, length, slice_get, slice_set, Some, arith, ap, refl, subst, sym, ◌∙◌}
use Rattle.std.proofs.lemmas.Option.{slice_get_read}
use Rattle.rsx_region.specs.Joins.{IsCutFrom}
use Rattle.rsx_region.specs.Trees.{EdgeName, names_of, stage_of}
use Rattle.std.proofs.lemmas.List.{length-set}
use Rattle.rsx_region.proofs.Between.{front_there}
use Rattle.rsx_region.proofs.Lists.{set_there}
use Rattle.rsx_region.proofs.Stages.{comes_so, cut_from, stage_one, stage_same, still_from}
use Rattle.rsx_region.proofs.trees.CutTrees.cut.Goals as goal

pub returns-then-not-has_room-clause-same : goal.returns-then-not-has_room-clause-same
returns-then-not-has_room-clause-same g c = (stage_same (stage_of c.args.self.now) (stage_of c.has_room.new.self) c.has_room.ensures.pieces c.has_room.ensures.links, ap names_of c.has_room.ensures.edges)

pub returns-then-not-has_room-clause-from : goal.returns-then-not-has_room-clause-from
unfolding returns-then-not-has_room-clause-same
returns-then-not-has_room-clause-from g c = λ m hubs whole less w.
    let same = returns-then-not-has_room-clause-same g c in
    still_from g.N.Machine g.N.CrossingNodes m hubs whole c.args.self.now c.has_room.new.self same.0 same.1 w

pub index_mut-requires : goal.index_mut-requires
index_mut-requires g c = let l = ap length c.has_room.ensures.pieces in let k = c.has_room.new.self.pieces.ok.0 in let r = c.requires in omega (arith, l, k, r)

pub put_behind-requires-clause-room : goal.put_behind-requires-clause-room
put_behind-requires-clause-room g c =
    let r = c.has_room.ensures.room c.if-not-has_room.false in
    let x = r.0 in
    let size = length-set c.has_room.new.self.pieces.items c.args.above c.cut.new.self in
    (omega (arith, x, size), r.1, r.2)

pub returns-in-Err-clause-same : goal.returns-in-Err-clause-same
returns-in-Err-clause-same g c =
    let ps = c.args.self.now.pieces.items in
    let was = c.index_mut.result.now in
    let hr = c.has_room.new.self in
    let size : length hr.pieces.items ≡ length ps = ap length c.has_room.ensures.pieces in
    let within : c.args.above < length hr.pieces.items = let r = c.requires in omega (arith, size, r) in
    let there : slice_get ps c.args.above ≡ Some was = ap (λ l. slice_get l c.args.above) (sym c.has_room.ensures.pieces) ∙ slice_get_read hr.pieces.items (length hr.pieces.items) c.args.above was refl within c.index_mut.ensures.value in
    (stage_one (stage_of c.args.self.now) _ c.args.above was c.cut.new.self there c.in-Err.ensures.same (ap (λ l. slice_set l c.args.above c.cut.new.self) c.has_room.ensures.pieces) c.has_room.ensures.links, ap names_of c.has_room.ensures.edges)

pub returns-in-Err-clause-from : goal.returns-in-Err-clause-from
returns-in-Err-clause-from g c = λ m hubs whole less w.
    let ps = c.args.self.now.pieces.items in
    let was = c.index_mut.result.now in
    let hr = c.has_room.new.self in
    let size : length hr.pieces.items ≡ length ps = ap length c.has_room.ensures.pieces in
    let within : c.args.above < length hr.pieces.items = let r = c.requires in omega (arith, size, r) in
    let there : slice_get ps c.args.above ≡ Some was = ap (λ l. slice_get l c.args.above) (sym c.has_room.ensures.pieces) ∙ slice_get_read hr.pieces.items (length hr.pieces.items) c.args.above was refl within c.index_mut.ensures.value in
    still_from g.N.Machine g.N.CrossingNodes m hubs whole c.args.self.now _ (stage_one (stage_of c.args.self.now) _ c.args.above was c.cut.new.self there c.in-Err.ensures.same (ap (λ l. slice_set l c.args.above c.cut.new.self) c.has_room.ensures.pieces) c.has_room.ensures.links) (ap names_of c.has_room.ensures.edges) w

pub returns-in-Ok-cut-clause-named : goal.returns-in-Ok-cut-clause-named
returns-in-Ok-cut-clause-named g c =
    let at = c.in-Ok-cut.made.at in
    c.put_behind.ensures.edges
    ∙ (ap (λ es. names_of es ++ (let n : EdgeName = record { above = c.args.above; at = at } in n) ∷ []) c.has_room.ensures.edges
    ∙ ap (λ k. names_of c.args.self.now.edges.items ++ (let n : EdgeName = record { above = c.args.above; at = k } in n) ∷ []) c.in-Ok-cut.ensures.numbers.at)

pub returns-in-Ok-cut-clause-cut : goal.returns-in-Ok-cut-clause-cut
returns-in-Ok-cut-clause-cut g c =
    let b = g.N.Machine in
    let ps = c.args.self.now.pieces.items in
    let was = c.index_mut.result.now in
    let hr = c.has_room.new.self in
    let upper = c.cut.new.self in
    let below = c.in-Ok-cut.made in
    let size : length hr.pieces.items ≡ length ps = ap length c.has_room.ensures.pieces in
    let within : c.args.above < length hr.pieces.items = let r = c.requires in omega (arith, size, r) in
    let C : ℕ → Type 0 = λ k. IsCutFrom b g.N.CrossingNodes was (record { upper = upper; lower = below.piece; at = k }) in
    let cut : C c.args.at = subst C c.in-Ok-cut.ensures.numbers.at c.in-Ok-cut.ensures.cut in
    let count : c.in-Ok.number ≡ length c.args.self.now.links.items = (let e = c.in-Ok.ensures in let l = c.len.ensures in let k = c.args.self.now.links.ok.0 in omega (arith, e, l, k)) in
    record {
      was = was;
      upper = upper;
      lower = below.piece;
      link = below.link;
      there = ap (λ l. slice_get l c.args.above) (sym c.has_room.ensures.pieces) ∙ slice_get_read hr.pieces.items (length hr.pieces.items) c.args.above was refl within c.index_mut.ensures.value;
      pieces = c.put_behind.ensures.pieces ∙ ap (λ l. slice_set l c.args.above upper ++ below.piece ∷ []) c.has_room.ensures.pieces;
      links = c.put_behind.ensures.links ∙ ap (λ l. l ++ below.link ∷ []) c.has_room.ensures.links;
      cut = cut;
      comes = comes_so b g.N.CrossingNodes was upper below c.args.at c.in-Ok.number c.args.hub (length c.args.self.now.links.items) cut c.in-Ok-cut.ensures.numbers count;
      sends = c.in-Ok-cut.ensures.numbers.sends ∙ count;
      small = c.in-Ok-cut.ensures.fit.small;
    }

pub returns-in-Ok-cut-clause-hub : goal.returns-in-Ok-cut-clause-hub
returns-in-Ok-cut-clause-hub g c =
    let ps = c.args.self.now.pieces.items in
    let was = c.index_mut.result.now in
    let hr = c.has_room.new.self in
    let upper = c.cut.new.self in
    let size : length hr.pieces.items ≡ length ps = ap length c.has_room.ensures.pieces in
    let within : c.args.above < length hr.pieces.items = let r = c.requires in omega (arith, size, r) in
    let there : slice_get hr.pieces.items c.args.above ≡ Some was = slice_get_read hr.pieces.items (length hr.pieces.items) c.args.above was refl within c.index_mut.ensures.value in
    let numbers = c.in-Ok-cut.ensures.numbers in
    record {
      upper = upper;
      there = ap (λ l. slice_get l c.args.above) c.put_behind.ensures.pieces ∙ front_there (slice_set hr.pieces.items c.args.above upper) c.in-Ok-cut.made.piece c.args.above upper (set_there hr.pieces.items c.args.above was upper there);
      others = numbers.others;
      last = numbers.last;
      ins = numbers.ins;
      hub = numbers.hub;
    }

pub returns-in-Ok-cut-clause-from : goal.returns-in-Ok-cut-clause-from
unfolding returns-in-Ok-cut-clause-cut
returns-in-Ok-cut-clause-from g c = λ m hubs whole less w.
    let ends = c.in-Ok-cut.ensures.ends in
    let count : c.in-Ok.number ≡ length c.args.self.now.links.items = (let e = c.in-Ok.ensures in let l = c.len.ensures in let k = c.args.self.now.links.ok.0 in omega (arith, e, l, k)) in
    cut_from g.N.Machine g.N.CrossingNodes m hubs c.args.above c.args.at c.in-Ok.number whole c.args.self.now _ (returns-in-Ok-cut-clause-cut g c) (returns-in-Ok-cut-clause-named g c) count (λ links is h. ends links is h) c.in-Ok-cut.ensures.fresh (λ nothing h. c.in-Ok-cut.ensures.stands m hubs less nothing h) w

pub returns-in-Err-clause-whole : goal.returns-in-Err-clause-whole
returns-in-Err-clause-whole g c = λ is.
    let ps = c.args.self.now.pieces.items in
    let was = c.index_mut.result.now in
    let hr = c.has_room.new.self in
    let size : length hr.pieces.items ≡ length ps = ap length c.has_room.ensures.pieces in
    let within : c.args.above < length hr.pieces.items = let r = c.requires in omega (arith, size, r) in
    let there : slice_get ps c.args.above ≡ Some was = ap (λ l. slice_get l c.args.above) (sym c.has_room.ensures.pieces) ∙ slice_get_read hr.pieces.items (length hr.pieces.items) c.args.above was refl within c.index_mut.ensures.value in
    inr (was, there, c.in-Err.ensures.whole is)
