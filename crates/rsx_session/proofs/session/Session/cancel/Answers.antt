use Rattle.std.proofs.Common.{◌∙◌, refl, sym}
use Rattle.rsx_subscriber.specs.Past.{cancelled}
use Rattle.rsx_graph_state.specs.declared.step.Answer.TheVariants as did
use Rattle.rsx_graph.specs.declared.step.Step.TheVariants as step
use Rattle.rsx_session.proofs.Calls.{made, not_made, seen_same}
use Rattle.rsx_session.proofs.session.Session.cancel.Goals as goal

pub returns-in_err-cancel-clause-leads : goal.returns-in_err-cancel-clause-leads
returns-in_err-cancel-clause-leads c =
    let err = c.in_err-cancel.ensures.err in
    let same = c.in_err-cancel.ensures.same in
    not_made (step.Cancel c.args.sub) c.args.self.now _ c.in_err-cancel.field-0.0 c.from_residual.result (λ h o. refl) (λ h k. (err.0, err.1, same)) same refl refl refl refl c.from_residual.ensures

pub returns-clause-leads : goal.returns-clause-leads
returns-clause-leads c = λ h k.
    let ok = c.in_ok-cancel.ensures in
    made (step.Cancel c.args.sub) did.Cancelled c.args.self.now _ h k (ok.stands h k.graph) (ok.effect, c.cancel.ensures.aside) (λ bad. cc) k.published (k.records ∙ sym (seen_same cancelled (λ p. refl) h.pasts c.args.sub.0)) refl refl
