use Rattle.std.proofs.Common.{◌∙◌, map, refl, ap}
use Rattle.rsx_graph_state.specs.declared.step.Answer.TheVariants as did
use Rattle.rsx_graph.specs.declared.step.Step.TheVariants as step
use Rattle.rsx_session.proofs.Calls.{feed_published, made, no_memory, not_made}
use Rattle.rsx_session.proofs.session.Session.feed.Goals as goal

pub returns-in_err-reserve-clause-leads : goal.returns-in_err-reserve-clause-leads
returns-in_err-reserve-clause-leads c = no_memory c.from_residual.result _ c.from_residual.ensures

pub returns-in_err-hub-clause-leads : goal.returns-in_err-hub-clause-leads
returns-in_err-hub-clause-leads c =
    let e = c.in_err-hub.ensures in
    not_made (step.FeedHub c.args.kind c.args.capacity c.args.expr) c.args.self.now _ c.in_err-hub.field-0.0 c.from_residual-in_err-hub.result (λ h o. refl) (λ h k. (e.err, e.same)) e.same c.reserve.ensures.items refl refl refl c.from_residual-in_err-hub.ensures

pub returns-clause-leads : goal.returns-clause-leads
returns-clause-leads c = λ h k.
    let ok = c.in_ok-hub.ensures in
    made (step.FeedHub c.args.kind c.args.capacity c.args.expr) (did.Opened c.in_ok-hub.hub) c.args.self.now _ h k (ok.stands h k.graph) (ok.id.0, ok.id.1, ok.id.2, ok.effect, ok.subscriptions, ap (map (λ v. v.items)) ok.joins, ok.missed, ok.placed) (λ bad. cc)
    (feed_published c.args.kind c.args.expr h _ _ c.push_reserved.ensures.items (c.reserve.ensures.items ∙ k.published)) k.records refl refl
