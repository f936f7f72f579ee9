use Rattle.std.proofs.Common.{◌∷◌, ap, ◌∙◌, arith}
use Rattle.atomic_table.specs.Table.{rest}
use Rattle.rsx_link.specs.declared.place.Place.TheVariants.{Free, Offered}
use Rattle.rsx_link.specs.PlaceSteps.{ticket_of, offers_at}
use Rattle.rsx_link.specs.Places.{count_in}
use Rattle.rsx_link.proofs.PlaceKeeps.{offers}
use Rattle.rsx_link.proofs.PlaceSlots.{front}
use Rattle.rsx_link.proofs.places.Places.put.Goals as goal

pub exchange-place-requires : goal.exchange-place-requires
exchange-place-requires g c = let out = c.requires.2 in (c.requires.0, (Free out.0, front _ _ _ out.1))

pub store-requires : goal.store-requires
store-requires g c = let sized = c.args.self.now.sized in let moved = c.exchange-place.ensures in let k = c.args.at in (
  moved.0 ∙ c.requires.0,
  omega arith,
  offers _ _ _ _ k _ c.args.part sized.1 (omega arith) (ap (λ m. m.1) moved.3 ∙ ap (λ r. (k, Offered c.args.part) ∷ r) (ap rest c.requires.2.1)) c.requires.1
      (ap (λ m. count_in (ticket_of k) m.0) moved.3 ∙ c.requires.3) (ap (λ m. count_in (offers_at k) m.0) moved.3 ∙ c.requires.4),
)
