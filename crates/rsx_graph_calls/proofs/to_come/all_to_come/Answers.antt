use Rattle.std.proofs.Common.{◌≡◌, ◌∙◌, ◌∷◌, ◌++◌, ◌+◌, ◌≤◌, List, [], ap, arith, length, rules, subst, sym, take}
use Rattle.std.proofs.lemmas.List.{length-take-le, take_all, take_more}
use Rattle.rsx_graph_state.specs.Prelude.{feed_of, HubState}
use Rattle.rsx_types.specs.Stream.{Stream}
use Rattle.rsx_graph_calls.specs.ToCome.{AreToCome, IsToCome}
use Rattle.rsx_graph_calls.proofs.ToComes.{to_come_count, to_come_more}
use Rattle.rsx_graph_calls.proofs.to_come.all_to_come.Goals as goal

pub next_to_come-requires-after_bounds : goal.next_to_come-requires-after_bounds
next_to_come-requires-after_bounds g c =
    let hubs = c.args.hubs.now in
    let i = c.loop-hub.hub-index in
    let all = c.loop-hub.all.items in
    let test = c.loop-hub-test.true in
    let few = c.requires in
    let least : i ≤ length hubs = omega (arith, test) in
    let count : length all ≡ length (take i hubs) = to_come_count g.N.Machine (g.O.Ops.meaning c.args.ops.now) c.args.feeds.now [] (take i hubs) all c.loop-hub.invariant in
    let less : length (take i hubs) ≡ i = length-take-le i hubs least in
    let same : length c.deref.result.now ≡ length all = ap length c.deref.ensures.value in
    omega (arith, same, count, less, least, few)

pub loop-hub-preserved : goal.loop-hub-preserved
loop-hub-preserved g c =
    let m = g.O.Ops.meaning c.args.ops.now in
    let fs = c.args.feeds.now in
    let hubs = c.args.hubs.now in
    let i = c.loop-hub.hub-index in
    let all = c.loop-hub.all.items in
    let hub = c.hub-item.result in
    let next = c.in_ok-next.next in
    let taken : take (i + 1) hubs ≡ take i hubs ++ hub ∷ [] = take_more hubs i hub c.loop-hub-test.true ∙ ap (λ t. take i hubs ++ t ∷ []) (sym c.hub-item.is) in
    let pushed : c.push.new.self.items ≡ c.loop-hub.all.items ++ c.in_ok-next.next ∷ [] = search rules in
    let W : List (Stream _) → Type 0 = λ l. IsToCome g.N.Machine m l hub (feed_of fs (length l)) next in
    let P : List (HubState _) → Type 0 = λ l. AreToCome g.N.Machine m fs [] l (all ++ next ∷ []) in
    let Q : List (Stream _) → Type 0 = λ l. AreToCome g.N.Machine m fs [] (take (i + 1) hubs) l in
    subst Q (sym pushed) (subst P (sym taken) (to_come_more g.N.Machine m fs [] (take i hubs) all hub next c.loop-hub.invariant (subst W c.deref.ensures.value c.in_ok-next.ensures)))

pub returns : goal.returns
returns g c =
    let P : List (HubState _) → Type 0 = λ l. AreToCome g.N.Machine (g.O.Ops.meaning c.args.ops.now) c.args.feeds.now [] l c.loop-hub.all.items in
    subst P (take_all c.loop-hub.hub-index c.args.hubs.now (omega (arith, c.loop-hub-test.false))) c.loop-hub.invariant
