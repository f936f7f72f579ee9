use Rattle.std.proofs.Common.{◌<◌, ◌∙◌, arith, false, length, refl, sym, true}
use Rattle.std.proofs.lemmas.List.{length-set}
use Rattle.rsx_subscriber.proofs.Moves.{delivery_enabled}
use Rattle.rsx_subscriber.specs.Prelude.{delivery, given}
use Rattle.rsx_graph_state.proofs.Graphs.{AllStand-set, enabled_there, found, set_same}
use Rattle.rsx_graph_moves.proofs.trees.take.Goals as goal

pub returns-in-Some-clause-count : goal.returns-in-Some-clause-count
returns-in-Some-clause-count g c = length-set c.args.subscriptions.now.items c.args.sub.0 c.take.new.self

pub returns-in-None-clause-count : goal.returns-in-None-clause-count
returns-in-None-clause-count g c = length-set c.args.subscriptions.now.items c.args.sub.0 c.take.new.self

pub returns-in-Some-clause-stands : goal.returns-in-Some-clause-stands
returns-in-Some-clause-stands g c = λ m published pasts s.
    let l = c.len.ensures in
    let within : c.args.sub.0 < length c.args.subscriptions.now.items = omega (arith, l, c.if-at-len.false) in
    AllStand-set g.N.Machine m published (given c.in-Some.signal) c.args.subscriptions.now.items pasts c.args.sub.0 c.index_mut-subscription.result.now c.take.new.self within (sym c.index_mut-subscription.ensures.value) (λ p k. c.in-Some.ensures.some m published p k) s

pub returns-in-Some-clause-enabled : goal.returns-in-Some-clause-enabled
returns-in-Some-clause-enabled g c = λ m.
    let l = c.len.ensures in
    let within : c.args.sub.0 < length c.args.subscriptions.now.items = omega (arith, l, c.if-at-len.false) in
    enabled_there g.N.Machine g.N.Nodes m c.args.subscriptions.now.items c.args.sub.0 c.index_mut-subscription.result.now (delivery c.args.sub) within (sym c.index_mut-subscription.ensures.value) ∙ delivery_enabled g.N.Machine g.N.Nodes m c.args.sub c.index_mut-subscription.result.now true c.in-Some.ensures.enabled

pub returns-in-Some-clause-effect : goal.returns-in-Some-clause-effect
returns-in-Some-clause-effect g c = λ m.
    let l = c.len.ensures in
    let within : c.args.sub.0 < length c.args.subscriptions.now.items = omega (arith, l, c.if-at-len.false) in
    record {
      old = c.index_mut-subscription.result.now;
      new = c.take.new.self;
      there = found c.args.subscriptions.now.items c.args.sub.0 c.index_mut-subscription.result.now within (sym c.index_mut-subscription.ensures.value);
      effect = c.in-Some.ensures.effect;
      others = refl;
    }

pub returns-in-None-clause-err : goal.returns-in-None-clause-err
returns-in-None-clause-err g c = λ m.
    let l = c.len.ensures in
    let within : c.args.sub.0 < length c.args.subscriptions.now.items = omega (arith, l, c.if-at-len.false) in
    (within, enabled_there g.N.Machine g.N.Nodes m c.args.subscriptions.now.items c.args.sub.0 c.index_mut-subscription.result.now (delivery c.args.sub) within (sym c.index_mut-subscription.ensures.value) ∙ delivery_enabled g.N.Machine g.N.Nodes m c.args.sub c.index_mut-subscription.result.now false c.in-None.ensures.none.1)

pub returns-in-None-clause-same : goal.returns-in-None-clause-same
returns-in-None-clause-same g c =
    let l = c.len.ensures in
    let within : c.args.sub.0 < length c.args.subscriptions.now.items = omega (arith, l, c.if-at-len.false) in
    set_same c.args.subscriptions.now.items c.args.sub.0 c.index_mut-subscription.result.now c.take.new.self within (sym c.index_mut-subscription.ensures.value) c.in-None.ensures.none.0
