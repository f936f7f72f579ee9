use Rattle.std.proofs.Common.{◌≡◌, ap, ◌∙◌, ⊎_elim, arith}
use Rattle.rsx_link.specs.declared.place.Place.TheVariants.{Offered}
use Rattle.rsx_link.proofs.PlaceKeeps.{collects}
use Rattle.rsx_link.proofs.PlaceSlots.{front, same_slot, took}
use Rattle.rsx_link.proofs.places.Places.look.Goals as goal

pub load-requires : goal.load-requires
load-requires g c = let sized = c.args.self.now.sized in
    (c.requires.0, omega arith, collects _ _ _ _ c.args.at _ sized.1 c.requires.1 (omega arith) c.requires.2 c.requires.3)

pub returns-then-load-eq0-clause-none : goal.returns-then-load-eq0-clause-none
returns-then-load-eq0-clause-none g c = (c.load.ensures.2 c.args.at (omega arith)).0 c.if-load-eq0.true

pub exchange-requires : goal.exchange-requires
exchange-requires g c = let told = (c.load.ensures.2 c.args.at (omega arith)).1 c.if-load-eq0.false in
    (c.load.ensures.0 ∙ c.requires.0, (Offered told.0, front _ _ _ (ap (λ m. m.1) told.1)))

pub unreachable-requires : goal.unreachable-requires
unreachable-requires g c =
    let told = (c.load.ensures.2 c.args.at (omega arith)).1 c.if-load-eq0.false in
    let is : c.exchange.result ≡ Offered told.0 = same_slot _ _ _ _ _ _ c.exchange.ensures.2 (ap (λ m. m.1) told.1) in
    ⊎_elim (λ t. let free = t.1 in cc) (λ t. cc) c.in-Free.is

pub returns-clause-some : goal.returns-clause-some
returns-clause-some g c =
    let told = (c.load.ensures.2 c.args.at (omega arith)).1 c.if-load-eq0.false in
    took _ _ _ _ _ _ _ _ told.1 c.exchange.ensures.2 c.in-Offered.is c.exchange.ensures.3
