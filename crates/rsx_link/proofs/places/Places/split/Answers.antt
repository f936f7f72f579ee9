use Rattle.std.proofs.Common.{ap, sym, ◌∙◌, subst, arith}
use Rattle.atomic_table.specs.Seated.{TableId}
use Rattle.rsx_link.proofs.PlaceKeeps.{splits}
use Rattle.rsx_link.proofs.PlaceOffers.{Sound, sound_of, sound_split, may_split}
use Rattle.rsx_link.proofs.places.Places.split.Goals as goal

pub split_seat-other-requires : goal.split_seat-other-requires
split_seat-other-requires g c =
    let sized = c.args.self.now.sized in let slots = ap (λ (z : TableId). z.slots) c.requires.seat.0 in
    (c.requires.seat.0, omega arith, splits _ _ _ _ 1 (omega arith) (λ none. absurd (omega arith)) (λ places is. may_split _ _ c.args.seat.now.seat.me.0 (slots ∙ sized.1 ∙ sym is) c.requires.parts))

pub invariant_of-seat : goal.invariant_of-seat
invariant_of-seat g c =
    let was = c.args.seat.now in
    let old = sound_of was in
    let cut = c.split_seat-other.ensures in
    let new = sound_split was.seat.table_id.slots _ _ was.refused (ap (λ m. m.0) cut.2) c.requires.parts old in
    let now = subst (λ (z : TableId). Sound z.slots c.split_seat-other.new.seat.me.0 was.refused) (sym cut.0) new in record {
      alone = ap (λ m. m.1) cut.2 ∙ was.alone;
      never_collects = now.never_collects;
      settled = now.settled;
      tells = now.tells;
      has_part = now.has_part;
    }
