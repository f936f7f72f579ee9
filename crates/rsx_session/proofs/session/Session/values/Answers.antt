use Rattle.std.proofs.Common.{◌≡◌, ◌<◌, ◌+◌, ◌++◌, ◌∷◌, List, [], length, take, get_or, ap, sym, subst, arith, length-append}
use Rattle.std.proofs.lemmas.List.{length-map, take_all}
use Rattle.rsx_session.specs.Prelude.{AreValues, History, HubPast, HubSource, IsHubsTrouble, SessionStands, Stream, Trouble, Val, demo_meaning, place_of, source_of}
use Rattle.rsx_session.specs.declared.session.Trouble.TheVariants as trouble
use Rattle.rsx_session.proofs.Hubs.{hubs_passed, next_trouble, next_value}
use Rattle.rsx_session.proofs.session.Session.values.Goals as goal

pub loop-source-init : goal.loop-source-init
loop-source-init c = record { count = ap length c.new-values.ensures.items; values = λ h k. c.new-values.ensures.items }

pub loop-source-preserved : goal.loop-source-preserved
loop-source-preserved c =
    let s = c.args.self.now in
    let i = c.loop-source.source-index in
    let vs = c.loop-source.values.items in
    let source = c.source-item.result in
    let value = c.in_ok-value.value in
    let inv = c.loop-source.invariant in
    let items = c.deref-source-items.ensures.value in
    let L : List HubSource → Type 0 = λ l. i < length l in
    let G : List HubSource → Type 0 = λ l. source ≡ get_or l i source in
    let pushed : c.push.new.self.items ≡ vs ++ value ∷ [] = c.in_ok-push.ensures.items in
    record {
      count = let n = length-append vs (value ∷ []) in let m = ap length pushed in let k = inv.count in omega (arith, n, m, k);
      values = λ h k.
          let A : List (Stream Val) → Type 0 = λ l. AreValues demo_meaning s.graph.feeds.items [] (take (i + 1) h.hubs) l in
          subst A (sym pushed) (next_value s h k i vs c.deref.result.now value source (inv.values h k) inv.count c.deref.ensures.value (subst L items c.loop-source-test.true) (subst G items c.source-item.is) (c.in_ok-value.ensures.says h k));
    }

pub returns-clause-says : goal.returns-clause-says
returns-clause-says c = λ h k.
    let s = c.args.self.now in
    let items = ap length c.deref-source-items.ensures.value in
    let kept = ap length k.published in
    let hubs = length-map h.hubs (λ p. source_of p.source) in
    let P : List (HubPast Val) → Type 0 = λ l. AreValues demo_meaning s.graph.feeds.items [] l c.loop-source.values.items in
    subst P (take_all c.loop-source.source-index h.hubs (omega (arith, c.loop-source-test.false, items, kept, hubs))) (c.loop-source.invariant.values h k)

pub returns-in_err-value-clause-refused : goal.returns-in_err-value-clause-refused
returns-in_err-value-clause-refused c =
    let s = c.args.self.now in
    let i = c.loop-source.source-index in
    let source = c.source-item.result in
    let inv = c.loop-source.invariant in
    let items = c.deref-source-items.ensures.value in
    let L : List HubSource → Type 0 = λ l. i < length l in
    let G : List HubSource → Type 0 = λ l. source ≡ get_or l i source in
    let P : Trouble → Type 0 = λ t. (h : History Val) → SessionStands s h → IsHubsTrouble (place_of s h) t in
    hubs_passed c.in_err-value.field-0.0 c.from_residual.result P (λ h k. next_trouble s h k i c.loop-source.values.items c.deref.result.now c.in_err-value.field-0.0 source (inv.values h k) inv.count c.deref.ensures.value (subst L items c.loop-source-test.true) (subst G items c.source-item.is) (c.in_err-value.ensures.refused h k)) c.from_residual.ensures

pub returns-in_err-push-clause-refused : goal.returns-in_err-push-clause-refused
returns-in_err-push-clause-refused c =
    let s = c.args.self.now in
    let P : Trouble → Type 0 = λ t. (h : History Val) → SessionStands s h → IsHubsTrouble (place_of s h) t in
    hubs_passed trouble.Memory c.from_residual-in_err-push.result P (λ h k. tt) c.from_residual-in_err-push.ensures
