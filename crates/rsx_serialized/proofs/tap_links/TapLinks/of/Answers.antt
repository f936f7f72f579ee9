use Rattle.std.proofs.Common.{◌≡◌, ◌<◌, arith, length, refl, subst}
use Rattle.std.proofs.lemmas.Option.{slice_get_read}
use Rattle.rsx_serialized.specs.Starting.{AreTapLinks}
use Rattle.rsx_serialized.proofs.Starts.{no_tap_links, tap_links_more}
use Rattle.rsx_serialized.proofs.tap_links.TapLinks.of.Goals as goal

pub loop-number-init : goal.loop-number-init
loop-number-init g c = no_tap_links c.args.subs.now 0 c.none-opened.result refl c.none-opened.ensures.0 c.none-opened.ensures.1 c.none-opened.ensures.2 c.none-opened.ensures.3

pub loop-number-preserved : goal.loop-number-preserved
loop-number-preserved g c =
    let less : c.loop-number.number < length c.args.subs.now = c.loop-number-test.true in
    let at = slice_get_read c.args.subs.now (length c.args.subs.now) c.loop-number.number c.index-subs-number.result refl less c.index-subs-number.is in
    tap_links_more c.args.subs.now c.loop-number.number c.loop-number.opened c.add.new.self c.in_ok-link.link c.index-subs-number.result at c.in_ok-link.ensures c.in_ok-add.ensures c.loop-number.invariant

pub returns : goal.returns
returns g c =
    let all : c.loop-number.number ≡ length c.args.subs.now = omega (arith, c.loop-number.auto.number-end, c.loop-number-test.false) in
    subst (λ n. AreTapLinks c.args.subs.now n 0 c.loop-number.opened) all c.loop-number.invariant
