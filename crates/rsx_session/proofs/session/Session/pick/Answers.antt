use Rattle.std.proofs.Common.{◌∙◌, map, refl, sym, ap}
use Rattle.rsx_graph_state.specs.declared.step.Answer.TheVariants as did
use Rattle.rsx_graph.specs.declared.step.Step.TheVariants as step
use Rattle.rsx_session.specs.Prelude.{Pick, seen, sources_of}
use Rattle.rsx_types.specs.declared.names.Tree.TheVariants.{Sub}
use Rattle.rsx_session.proofs.Calls.{made, no_delivery, not_made}
use Rattle.rsx_session.proofs.session.Session.pick.Goals as goal

pub returns-in_err-make-clause-leads : goal.returns-in_err-make-clause-leads
returns-in_err-make-clause-leads c =
    let e = c.in_err-make.ensures in
    not_made (step.Make (Pick (Sub c.args.sub) c.args.node c.args.input)) c.args.self.now _ c.in_err-make.field-0.0 c.from_residual.result (λ h o. refl) (λ h k. (e.err, e.memory, e.same)) e.same refl refl refl refl c.from_residual.ensures

pub returns-clause-leads : goal.returns-clause-leads
returns-clause-leads c = λ h k.
    let ok = c.in_ok-make.ensures in
    let o = c.in_ok-make.field-0 in
    let none = sym (no_delivery o h ok.answer) in
    made (step.Make (Pick (Sub c.args.sub) c.args.node c.args.input)) (did.Made o) c.args.self.now _ h k (ok.stands h k.graph) (ok.enabled, ok.effect, ok.answer, c.make.ensures.joins) (λ bad. cc) (k.published ∙ ap sources_of none) (k.records ∙ ap (λ x. map seen x.pasts) none) refl refl
