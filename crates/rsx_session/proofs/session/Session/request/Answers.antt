use Rattle.rsx_session.specs.Prelude.{GraphStands, IsRequestedAt, demo_meaning, known, requested, state_of, with_past}
use Rattle.std.proofs.Common.{ℤ, w64}
use Rattle.std.proofs.lemmas.Int.{to_z-of_z}
use Rattle.std.proofs.Common.{◌∙◌, map, refl, sym, ap, subst}
use Rattle.rsx_graph_state.specs.declared.step.Answer.TheVariants as did
use Rattle.rsx_graph.specs.declared.step.Step.TheVariants as step
use Rattle.rsx_session.proofs.Calls.{after_signal, made, not_made, passed_memory, request_records}
use Rattle.rsx_session.proofs.session.Session.request.Goals as goal

pub returns-in_err-request-clause-leads : goal.returns-in_err-request-clause-leads
returns-in_err-request-clause-leads c =
    let err = c.in_err-request.ensures.err in
    let same = c.in_err-request.ensures.same in
    not_made (step.Request c.args.sub c.args.count) c.args.self.now _ c.in_err-request.field-0.0 c.from_residual.result (λ h o. refl) (λ h k. (err.0, err.1, same)) same refl refl refl refl c.from_residual.ensures

pub returns-in-None-clause-leads : goal.returns-in-None-clause-leads
returns-in-None-clause-leads c = λ h k.
    let ok = c.in_ok-request.ensures in
    let s = c.args.self.now in
    let same = to_z-of_z w64 c.args.count c.ranges.count in
    let A : ℤ → Type 0 = λ z. GraphStands demo_meaning (state_of c.request.new.self) (with_past (requested z) c.args.sub h) in
    let B : ℤ → Type 0 = λ z. IsRequestedAt c.args.sub.0 z s.graph.subscriptions.items c.request.new.self.subscriptions.items c.in_ok-request.field-0 in
    let effect = subst B same ok.effect in
    let records = request_records s h k c.args.sub.0 c.args.count c.in_ok-request.field-0 c.request.new.self.subscriptions.items (map known s.records.items) effect (ap (λ x. after_signal x (map known s.records.items) c.args.sub.0) (sym c.in-None.is)) in
    made (step.Request c.args.sub c.args.count) (did.Requested c.in_ok-request.field-0) s _ h k (subst A same (ok.stands h k.graph)) (effect, c.request.ensures.aside) (λ bad. cc) k.published records refl refl

pub returns-in_err-take_in-in-Some-clause-leads : goal.returns-in_err-take_in-in-Some-clause-leads
returns-in_err-take_in-in-Some-clause-leads c = passed_memory c.in_err-take_in-in-Some.field-0.0 c.from_residual-in_err-take_in-in-Some.result _ c.in_err-take_in-in-Some.ensures.err c.from_residual-in_err-take_in-in-Some.ensures

pub returns-in_ok-take_in-in-Some-clause-leads : goal.returns-in_ok-take_in-in-Some-clause-leads
returns-in_ok-take_in-in-Some-clause-leads c = λ h k.
    let ok = c.in_ok-request.ensures in
    let s = c.args.self.now in
    let same = to_z-of_z w64 c.args.count c.ranges.count in
    let A : ℤ → Type 0 = λ z. GraphStands demo_meaning (state_of c.request.new.self) (with_past (requested z) c.args.sub h) in
    let B : ℤ → Type 0 = λ z. IsRequestedAt c.args.sub.0 z s.graph.subscriptions.items c.request.new.self.subscriptions.items c.in_ok-request.field-0 in
    let effect = subst B same ok.effect in
    let records = request_records s h k c.args.sub.0 c.args.count c.in_ok-request.field-0 c.request.new.self.subscriptions.items (map known c.take_in.new.records.items) effect (c.in_ok-take_in-in-Some.ensures.taken ∙ ap (λ x. after_signal x (map known s.records.items) c.args.sub.0) (sym c.in-Some.is)) in
    made (step.Request c.args.sub c.args.count) (did.Requested c.in_ok-request.field-0) s _ h k (subst A same (ok.stands h k.graph)) (effect, c.request.ensures.aside) (λ bad. cc) k.published records refl refl
