use Rattle.std.proofs.Common.{◌<◌, ◌∙◌, ◌≡◌, ℤ, w64, length, arith, refl, sym, ap, subst, Err}
use Rattle.std.proofs.lemmas.Int.{to_z-of_z}
use Rattle.std.proofs.Math.ListN.{set}
use Rattle.rsx_session.specs.Prelude.{GraphStands, Next, demo_meaning, source_with, state_of, with_published}
use Rattle.rsx_demo.specs.declared.val.Val.TheVariants.{Int}
use Rattle.rsx_graph_state.specs.Hubs.{IsEmittedAt}
use Rattle.rsx_graph_state.specs.declared.refusal.Refusal.TheVariants as unknown
use Rattle.rsx_graph_state.specs.declared.step.Answer.TheVariants as did
use Rattle.rsx_graph.specs.declared.step.Step.TheVariants as step
use Rattle.rsx_session.proofs.Calls.{hubs_count, let_go, made, none_emits, not_made, published_set}
use Rattle.rsx_session.proofs.session.Session.emit.Goals as goal

pub returns-then-at-len-clause-leads : goal.returns-then-at-len-clause-leads
returns-then-at-len-clause-leads c =
    let l = c.len.ensures in
    let s = c.args.self.now in
    not_made (step.Emit c.args.hub (Int c.args.number)) s _ unknown.UnknownHub (Err c.from.result) (λ h o. refl) (λ h k. let n = hubs_count s h k in (none_emits s.graph.hubs.items s.graph.feeds.items c.args.hub.0 (omega (arith, l, c.if-at-len.true, n)), refl)) refl refl refl refl refl (refl, c.from.ensures)

pub returns-in-Ok-clause-leads : goal.returns-in-Ok-clause-leads
returns-in-Ok-clause-leads c = λ h k.
    let ok = c.in-Ok.ensures in
    let l = c.len.ensures in
    let s = c.args.self.now in
    let within : c.args.hub.0 < length s.published.items = omega (arith, l, c.if-at-len.false) in
    let same = to_z-of_z w64 c.args.number c.ranges.number in
    let A : ℤ → Type 0 = λ z. GraphStands demo_meaning (state_of c.emit.new.self) (with_published (Next (Int z)) c.args.hub h) in
    let B : ℤ → Type 0 = λ z. IsEmittedAt c.args.hub.0 (Int z) s.graph.hubs.items c.emit.new.self.hubs.items in
    let C : ℤ → Type 0 = λ z. c.keep_item.new.self ≡ source_with (Next (Int z)) c.index_mut-source.result.now in
    made (step.Emit c.args.hub (Int c.args.number)) did.Published s _ h k (subst A same (ok.stands h k.graph)) (ok.known, subst B same ok.effect, c.emit.ensures.rest) (λ bad. cc)
    (ap (set s.published.items c.args.hub.0) (subst C same c.in_ok-keep_item.ensures.kept) ∙ published_set (Next (Int c.args.number)) h.hubs s.published.items c.args.hub.0 c.index_mut-source.result.now k.published within (sym c.index_mut-source.ensures.value)) k.records refl refl

pub returns-in-Err-clause-leads : goal.returns-in-Err-clause-leads
returns-in-Err-clause-leads c =
    let e = c.in-Err.ensures in
    let l = c.len.ensures in
    let s = c.args.self.now in
    let within : c.args.hub.0 < length s.published.items = omega (arith, l, c.if-at-len.false) in
    let number = to_z-of_z w64 c.args.number c.ranges.number in
    let C : ℤ → Type 0 = λ z. c.keep_item.new.self ≡ source_with (Next (Int z)) c.index_mut-source.result.now in
    let back = let_go s.published.items c.args.hub.0 c.index_mut-source.result.now c.keep_item.new.self c.index_mut-kept.result.now c.let_item_go.new.self (Int c.args.number) within (sym c.index_mut-source.ensures.value) (subst C number c.in_ok-keep_item.ensures.kept) c.index_mut-kept.ensures.value c.let_item_go.ensures in
    not_made (step.Emit c.args.hub (Int c.args.number)) s _ c.in-Err.back.refusal (Err c.from-in-Err.result) (λ h o. refl) (λ h k. (e.err, e.same)) e.same back refl refl refl (refl, c.from-in-Err.ensures)
