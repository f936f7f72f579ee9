use Rattle.std.proofs.Common.{◌≡◌, ap, arith}
use Rattle.rsx_link.specs.PlaceSteps.{ticket_of, refusal_of}
use Rattle.rsx_link.specs.Places.{founder, count_in}
use Rattle.rsx_link.proofs.PlaceKeeps.{splits}
use Rattle.rsx_link.proofs.places.Places.begin.Goals as goal

pub split_seat-other-requires : goal.split_seat-other-requires
split_seat-other-requires g c =
    let born : c.args.seat.me.0 ≡ founder c.args.table.shared.key.value.items = ap (λ m. m.0) c.requires.seat.2 in
    let sized = c.requires.table in
    (c.requires.seat.0, omega arith, splits _ _ _ 0 _ (omega arith) (λ _ k. ap (count_in (ticket_of k)) born) (λ places _. let none = ap (count_in (refusal_of places)) born in omega arith))
