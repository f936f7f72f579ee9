use Rattle.std.proofs.Common.{◌∙◌, map, refl, ap}
use Rattle.rsx_graph_state.specs.declared.step.Answer.TheVariants as did
use Rattle.rsx_graph.specs.declared.step.Step.TheVariants as step
use Rattle.rsx_session.specs.Prelude.{joins_in, known}
use Rattle.rsx_session.proofs.Calls.{made, no_memory, not_made, subscribed_records}
use Rattle.rsx_session.proofs.session.Session.subscribe.Goals as goal

pub returns-in_err-reserve-clause-leads : goal.returns-in_err-reserve-clause-leads
returns-in_err-reserve-clause-leads c = no_memory c.from_residual.result _ c.from_residual.ensures

pub returns-in_err-sub-clause-leads : goal.returns-in_err-sub-clause-leads
returns-in_err-sub-clause-leads c =
    let e = c.in_err-sub.ensures in
    not_made (step.Subscribe c.args.expr) c.args.self.now _ c.in_err-sub.field-0.0 c.from_residual-in_err-sub.result (λ h o. refl) (λ h k. (e.err, e.same)) e.same refl c.reserve.ensures.items refl refl c.from_residual-in_err-sub.ensures

pub returns-clause-leads : goal.returns-clause-leads
returns-clause-leads c = λ h k.
    let ok = c.in_ok-sub.ensures in
    made (step.Subscribe c.args.expr) (did.Subscribed c.in_ok-sub.sub) c.args.self.now _ h k (ok.stands h k.graph) (ok.id, ok.effect, ok.joined, ok.feeds, ok.missed, ap (map (λ v. v.items)) ok.feed_joins, ok.placed) (λ bad. cc) k.published (subscribed_records c.args.expr (joins_in h c.args.expr) h.pasts _ _ _ c.push_reserved.ensures.items (ap (map known) c.reserve.ensures.items ∙ k.records) refl c.new.ensures.items refl) refl refl
