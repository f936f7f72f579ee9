use Rattle.std.proofs.Common.{◌∙◌, ap, refl}
use Rattle.rsx_session.proofs.Pumps.{slice_made}
use Rattle.rsx_session.proofs.session.Session.pump_slice.Goals as goal

pub returns-clause-pumped : goal.returns-clause-pumped
returns-clause-pumped c =
    slice_made c.args.budget c.args.self.now _ c.from_vec-deliveries.result c.pump.new.out c.into_vec-signals.result.items c.in_ok-pumped.pumped c.in_ok-pumped.ensures.pumped (c.from_vec-deliveries.ensures.signals ∙ ap (λ v. v.items) c.replace-spare.ensures.value) c.into_vec-signals.ensures.signals refl c.in_ok-take_in_all.ensures.taken c.in_ok-take_in_all.ensures.emptied refl
