use Rattle.std.proofs.Common.{◌<◌, ◌∙◌, length, arith, refl, sym, ap, Err}
use Rattle.std.proofs.Math.ListN.{set}
use Rattle.rsx_session.specs.Prelude.{Error, User}
use Rattle.rsx_graph_state.specs.declared.refusal.Refusal.TheVariants as unknown
use Rattle.rsx_graph_state.specs.declared.step.Answer.TheVariants as did
use Rattle.rsx_graph.specs.declared.step.Step.TheVariants as step
use Rattle.rsx_session.proofs.Calls.{failed, hubs_count, made, none_emits, not_made, published_set}
use Rattle.rsx_session.proofs.session.Session.fail.Goals as goal

pub returns-then-at-len-clause-leads : goal.returns-then-at-len-clause-leads
returns-then-at-len-clause-leads c =
    let l = c.len.ensures in
    let s = c.args.self.now in
    not_made (step.Fail c.args.hub c.args.number) s _ unknown.UnknownHub (Err c.from.result) (λ h o. refl) (λ h k. let n = hubs_count s h k in (none_emits s.graph.hubs.items s.graph.feeds.items c.args.hub.0 (omega (arith, l, c.if-at-len.true, n)), refl)) refl refl refl refl refl (refl, c.from.ensures)

pub returns-in_err-fail-clause-leads : goal.returns-in_err-fail-clause-leads
returns-in_err-fail-clause-leads c =
    let e = c.in_err-fail.ensures in
    not_made (step.Fail c.args.hub c.args.number) c.args.self.now _ c.in_err-fail.field-0.0 c.from_residual.result (λ h o. refl) (λ h k. (e.err, e.same)) e.same refl refl refl refl c.from_residual.ensures

pub returns-clause-leads : goal.returns-clause-leads
returns-clause-leads c = λ h k.
    let ok = c.in_ok-fail.ensures in
    let l = c.len.ensures in
    let within : c.args.hub.0 < length c.args.self.now.published.items = omega (arith, l, c.if-at-len.false) in
    made (step.Fail c.args.hub c.args.number) did.Published c.args.self.now _ h k (ok.stands h k.graph) (ok.known, ok.effect, c.fail.ensures.rest) (λ bad. cc)
    (ap (set c.args.self.now.published.items c.args.hub.0) (c.end.ensures ∙ failed (User c.args.number) c.index_mut-source.result.now) ∙ published_set (Error (User c.args.number)) h.hubs c.args.self.now.published.items c.args.hub.0 c.index_mut-source.result.now k.published within (sym c.index_mut-source.ensures.value)) k.records refl refl
