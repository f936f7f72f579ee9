use Rattle.std.proofs.Common.{◌<◌, false, cond, get_or, length, Some, ap, sym, ◌∙◌, subst, arith}
use Rattle.std.specs.Slots.{slots_items}
use Rattle.atomic_table.specs.Seated.{TableId}
use Rattle.rsx_link.specs.declared.place.Place.TheVariants.{Taken}
use Rattle.rsx_link.proofs.PlaceKeeps.{joins}
use Rattle.rsx_link.proofs.PlaceClosing.{leaves}
use Rattle.rsx_link.proofs.PlaceLeft.{is_left}
use Rattle.rsx_link.proofs.places.Places.close.Goals as goal

pub join_seat-requires : goal.join_seat-requires
join_seat-requires g c = let sized = c.args.self.sized in (c.requires.collector, c.requires.seat.0, c.args.seat.alone, omega arith, joins _ _ _ _ _ c.args.seat.never_collects)

pub returns-clause-left : goal.returns-clause-left
returns-clause-left g c = λ k lt.
    let sized = c.args.self.sized in let count = c.args.collector.counts in
    let slots = ap (λ (z : TableId). z.slots) c.requires.seat.0 in let own = ap (λ (z : TableId). z.slots) c.requires.collector in
    let few : k < length c.args.collector.taken.items = omega arith in
    let within : k < length c.as_slice.result.now = subst (λ l. k < length l) (sym c.as_slice.ensures.value) few in
    is_left _ _ _ k (slots_items c.close_with.result.slots) _ _ (c.args.collector.tells k few)
    (c.take_out.ensures.1 k within ∙ ap (λ l. Some (cond (get_or l k false) Taken (get_or (slots_items c.close_with.result.slots) k Taken))) c.as_slice.ensures.value)
    (leaves c.args.self.table.shared.key.value.items c.args.collector.seat.me.0 c.args.seat.seat.me.0 _ _ _ _ (c.join_seat.ensures.1 ∙ c.args.collector.only) (ap (λ m. m.0) c.join_seat.ensures.2)
    c.args.collector.draws_none c.args.seat.never_collects (λ j few. c.args.seat.settled j (omega arith)) c.close_with.ensures.values.2 k (omega arith))
