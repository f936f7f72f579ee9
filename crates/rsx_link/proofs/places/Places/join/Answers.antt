use Rattle.std.proofs.Common.{ap, sym, ◌∙◌, subst, arith}
use Rattle.atomic_table.specs.Seated.{TableId}
use Rattle.rsx_link.proofs.PlaceKeeps.{joins}
use Rattle.rsx_link.proofs.PlaceOffers.{Sound, sound_of, sound_joined}
use Rattle.rsx_link.proofs.places.Places.join.Goals as goal

pub join_seat-requires : goal.join_seat-requires
join_seat-requires g c = let sized = c.args.self.now.sized in
    (c.requires.seat.0, c.requires.other.0, c.args.other.alone, omega arith, joins _ _ _ _ _ c.args.other.never_collects)

pub invariant_of-seat : goal.invariant_of-seat
invariant_of-seat g c =
    let was = c.args.seat.now in let its = c.args.other in
    let old = sound_of was in
    let other = sound_of its in
    let glued = c.join_seat.ensures in
    let new = sound_joined was.seat.table_id.slots _ _ _ was.refused its.refused (ap (λ m. m.0) glued.2) old
    (subst (λ (z : TableId). Sound z.slots its.seat.me.0 its.refused) (c.requires.other.0 ∙ sym c.requires.seat.0) other) in
    let now = subst (λ (z : TableId). Sound z.slots c.join_seat.new.seat.me.0 was.refused) (sym glued.0) new in record {
      alone = ap (λ m. m.1) glued.2 ∙ was.alone;
      never_collects = now.never_collects;
      settled = now.settled;
      tells = now.tells;
      has_part = now.has_part;
    }
