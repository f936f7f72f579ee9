use Rattle.std.proofs.Common.{true, ◌<◌, ◌∷◌, ap, sym, ◌∙◌, subst, arith}
use Rattle.atomic_table.specs.Seated.{TableId}
use Rattle.rsx_link.specs.declared.place.Place.TheVariants.{Free}
use Rattle.rsx_link.specs.declared.place.PlaceStep.TheVariants.{Offer}
use Rattle.rsx_link.proofs.PlaceOffers.{Sound, sound_of, sound_refused, sound_offered, may_draw, new_ticket, new_place, its_ends}
use Rattle.rsx_link.proofs.places.Places.offer.Goals as goal

pub draw-ticket-requires : goal.draw-ticket-requires
draw-ticket-requires g c =
    let was = c.args.seat.now in
    let old = sound_of was in
    let may = may_draw _ _ _ _ (ap (λ (z : TableId). z.slots) c.requires.0) c.if-seat.false old in
    (c.requires.0, c.requires.1, may.0, may.1)

pub invariant_of-seat : goal.invariant_of-seat
invariant_of-seat g c =
    let was = c.args.seat.now in
    let old = sound_of was in
    let slots = ap (λ (z : TableId). z.slots) c.requires.0 in
    let ticket = c.draw-ticket.ensures.1 in
    let new = sound_refused was.seat.table_id.slots c.draw-ticket.result _ _ was.refused c.if-seat.false (omega arith) ticket.0 old in
    let now = subst (λ (z : TableId). Sound z.slots c.draw-ticket.new.seat.me.0 true) (sym c.draw-ticket.ensures.0.0) new in record {
      alone = ticket.2 (omega arith) ∙ was.alone;
      never_collects = now.never_collects;
      settled = now.settled;
      tells = now.tells;
      has_part = now.has_part;
    }

pub put-ends-requires : goal.put-ends-requires
put-ends-requires g c =
    let lt : c.draw-ticket.result < c.args.self.now.table.shared.table_id.slots = omega arith in
    let told = c.draw-ticket.ensures.1.1 lt in (
      c.draw-ticket.ensures.0.0 ∙ c.requires.0,
      lt,
      (told.0, told.1 ∙ ap (λ l. (c.draw-ticket.result, Free told.0) ∷ l) c.args.seat.now.alone),
      new_ticket _ _ _ c.draw-ticket.ensures.1.0 told.3,
      new_place _ _ _ c.draw-ticket.ensures.1.0 told.4,
    )

pub invariant_of-seat-2 : goal.invariant_of-seat-2
invariant_of-seat-2 g c =
    let was = c.args.seat.now in
    let old = sound_of was in
    let slots = ap (λ (z : TableId). z.slots) c.requires.0 in
    let put = c.put-ends.ensures.put.1 in
    let new = sound_offered was.seat.table_id.slots c.draw-ticket.result c.args.part _ _ _ was.refused (omega arith) c.draw-ticket.ensures.1.0 (ap (λ m. m.0) put) old in
    let now = subst (λ (z : TableId). Sound z.slots c.put-ends.new.seat.me.0 was.refused) (sym (c.put-ends.ensures.same.0 ∙ c.draw-ticket.ensures.0.0)) new in record {
      alone = ap (λ m. m.1) put;
      never_collects = now.never_collects;
      settled = now.settled;
      tells = now.tells;
      has_part = now.has_part;
    }

pub returns-clause-ok : goal.returns-clause-ok
returns-clause-ok g c =
    let was = c.args.seat.now in
    let old = sound_of was in
    let lt : c.draw-ticket.result < c.args.self.now.table.shared.table_id.slots = omega arith in
    let told = c.draw-ticket.ensures.1.1 lt in
    let put = c.put-ends.ensures.put in record {
      steps = ap (λ m. m.0.steps) put.1 ∙ ap (λ u. Offer c.draw-ticket.result c.args.part ∷ u.steps) c.draw-ticket.ensures.1.0;
      its = its_ends _ _ _ _ _ _ _ c.requires.1 told.2 told.1 put.0;
      first = told.3;
      not_before = (may_draw _ _ _ _ (ap (λ (z : TableId). z.slots) c.requires.0) c.if-seat.false old).0;
    }
