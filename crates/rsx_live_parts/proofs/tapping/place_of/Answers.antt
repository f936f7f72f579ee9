use Rattle.std.proofs.Common.{◌≡◌, ◌<◌, ℕ, arith, ap, length, refl, sym, ◌∙◌}
use Rattle.std.proofs.lemmas.Bool.{eqb-true}
use Rattle.std.proofs.lemmas.Option.{slice_get_read}
use Rattle.rsx_types.specs.declared.names.SubId.{SubId}
use Rattle.rsx_live_parts.proofs.tapping.place_of.Goals as goal

pub returns-then-eq-clause-some : goal.returns-then-eq-clause-some
returns-then-eq-clause-some g c =
    let less : c.loop-place.place < length c.args.taps.now = omega arith in
    let tap = c.index-taps-place.result in
    let number : c.sub.result.0 ≡ c.args.sub.0 = eqb-true c.sub.result.0 c.args.sub.0 (sym c.if-eq.ensures) in
    (tap, slice_get_read c.args.taps.now (length c.args.taps.now) c.loop-place.place tap refl less c.index-taps-place.is, sym c.sub.ensures ∙ ap (λ (i : ℕ). let s : SubId = record { 0 = i } in s) number)
