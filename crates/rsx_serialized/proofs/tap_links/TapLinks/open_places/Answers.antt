use Rattle.std.proofs.Common.{◌≡◌, arith, length, subst}
use Rattle.rsx_serialized.specs.Starting.{AreTapLinks}
use Rattle.rsx_serialized.proofs.Starts.{place_more}
use Rattle.rsx_serialized.proofs.tap_links.TapLinks.open_places.Goals as goal

pub loop-place-preserved : goal.loop-place-preserved
loop-place-preserved g c = place_more c.args.subs.now (length c.args.subs.now) c.loop-place.self c.add_place.new.self c.in_ok-link.link c.loop-place.place _ (omega arith) c.in_ok-link.ensures c.in_ok-add_place.ensures c.loop-place.invariant

pub returns : goal.returns
returns g c =
    let all : c.loop-place.place ≡ c.args.places = omega (arith, c.loop-place.auto.place-end, c.loop-place-test.false) in
    subst (λ n. AreTapLinks c.args.subs.now (length c.args.subs.now) n c.loop-place.self) all c.loop-place.invariant
