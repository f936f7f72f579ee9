use Rattle.std.proofs.Common.{◌≡◌, ◌<◌, ℕ, arith, ap, length, refl, sym, ◌∙◌}
use Rattle.std.proofs.lemmas.Bool.{eqb-true}
use Rattle.std.proofs.lemmas.Option.{slice_get_read}
use Rattle.rsx_types.specs.declared.names.HubId.{HubId}
use Rattle.rsx_serialized.proofs.driven.emitter_of.Goals as goal

pub returns-then-eq-clause-some : goal.returns-then-eq-clause-some
returns-then-eq-clause-some g c =
    let less : c.loop-place.place < length c.args.emitters.now = omega arith in
    let emitter = c.index-emitters-place.result in
    let number : c.hub.result.0 ≡ c.args.hub.0 = eqb-true c.hub.result.0 c.args.hub.0 (sym c.if-eq.ensures) in
    (emitter, slice_get_read c.args.emitters.now (length c.args.emitters.now) c.loop-place.place emitter refl less c.index-emitters-place.is, sym c.hub.ensures ∙ ap (λ (i : ℕ). let h : HubId = record { 0 = i } in h) number)
