use Rattle.std.proofs.Common.{◌≡◌, false, true, get_or, ◌∷◌, refl, ap, sym, ◌∙◌, arith}
use Rattle.std.proofs.lemmas.List.{length-set}
use Rattle.atomic_table.specs.Seated.{TableId}
use Rattle.rsx_link.specs.declared.place.PlaceStep.TheVariants.{Collect, Miss}
use Rattle.rsx_link.specs.Collected.{is_collected}
use Rattle.rsx_link.proofs.PlaceCollects.{draws_none, not_collected, tells_more}
use Rattle.rsx_link.proofs.places.Places.collect_at.Goals as goal

pub look-requires : goal.look-requires
look-requires g c =
    let was = c.args.collector.now in
    let no : is_collected c.args.at was.seat.me.0.steps ≡ false =
    sym (was.tells c.args.at (let count = was.counts in let same = ap (λ (z : TableId). z.slots) c.requires.collector in let lt = c.requires.within in omega arith))
    ∙ ap (get_or was.taken.items c.args.at) (sym c.if-index.false) ∙ sym c.index.ensures ∙ c.if-index.false in
    (c.requires.collector, was.only, c.requires.within, not_collected _ was.seat.me.0 was.alone no)

pub invariant_of-collector : goal.invariant_of-collector
invariant_of-collector g c =
    let was = c.args.collector.now in let told = c.in-Some.ensures.some in
    let steps : c.look.new.seat.me.0.steps ≡ Collect c.args.at c.in-Some.part ∷ was.seat.me.0.steps = ap (λ m. m.0.steps) told in
    let same = length-set was.taken.items c.args.at true in
    let count = was.counts in let slots = ap (λ (z : TableId). z.slots) c.requires.collector in let own = ap (λ (z : TableId). z.slots) c.look.ensures.same.0 in
    let lt = c.requires.within in let room = was.room.1 in record {
      only = c.look.ensures.same.1 ∙ was.only;
      alone = ap (λ m. m.0.beside) told ∙ was.alone;
      draws_none = λ k. draws_none k (Collect c.args.at c.in-Some.part) was.seat.me.0 _ refl refl (ap (λ m. m.0) told) (was.draws_none k);
      counts = omega arith;
      tells = λ k few. tells_more was.taken.items c.args.at c.in-Some.part was.seat.me.0.steps (omega arith) was.tells k few ∙ ap (is_collected k) (sym steps);
      room = (was.room.0, omega arith);
    }

pub invariant_of-collector-in-None : goal.invariant_of-collector-in-None
invariant_of-collector-in-None g c =
    let was = c.args.collector.now in let told = c.in-None.ensures.none in record {
      only = c.look.ensures.same.1 ∙ was.only;
      alone = ap (λ m. m.0.beside) told ∙ was.alone;
      draws_none = λ k. draws_none k (Miss c.args.at) was.seat.me.0 _ refl refl (ap (λ m. m.0) told) (was.draws_none k);
      counts = was.counts ∙ sym (ap (λ (z : TableId). z.slots) c.look.ensures.same.0);
      tells = λ k few. was.tells k few ∙ sym (ap (λ m. is_collected k m.0.steps) told);
      room = was.room;
    }
