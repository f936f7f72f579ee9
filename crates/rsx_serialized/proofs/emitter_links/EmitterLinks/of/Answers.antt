use Rattle.std.proofs.Common.{◌≡◌, ◌<◌, arith, length, refl, subst}
use Rattle.std.proofs.lemmas.Option.{slice_get_read}
use Rattle.rsx_serialized.specs.Starting.{AreEmitterLinks}
use Rattle.rsx_serialized.proofs.Starts.{no_emitter_links}
use Rattle.rsx_serialized.proofs.emitter_links.EmitterLinks.of.Goals as goal

pub loop-number-init : goal.loop-number-init
loop-number-init g c = no_emitter_links c.args.hubs.now c.args.feeds.now 0 c.none-opened.result refl c.none-opened.ensures.0 c.none-opened.ensures.1 c.none-opened.ensures.2

pub open_for-requires-after_bounds : goal.open_for-requires-after_bounds
open_for-requires-after_bounds g c κs within = c.loop-number.invariant.few

pub loop-number-preserved : goal.loop-number-preserved
loop-number-preserved g c =
    let less : c.loop-number.number < length c.args.hubs.now = c.loop-number-test.true in
    c.in_ok-open_for.ensures c.args.hubs.now (slice_get_read c.args.hubs.now (length c.args.hubs.now) c.loop-number.number c.index-hubs-number.result refl less c.index-hubs-number.is) c.loop-number.invariant

pub returns : goal.returns
returns g c =
    let all : c.loop-number.number ≡ length c.args.hubs.now = omega (arith, c.loop-number.auto.number-end, c.loop-number-test.false) in
    subst (λ n. AreEmitterLinks c.args.hubs.now c.args.feeds.now n c.loop-number.opened) all c.loop-number.invariant
