use Rattle.std.proofs.Common.{◌<◌, ◌∙◌, arith, length, refl, sym}
use Rattle.std.proofs.lemmas.List.{length-set}
use Rattle.rsx_graph_state.proofs.Alone.{alone_at}
use Rattle.rsx_graph_state.proofs.Graphs.{AllStand-moved, allocates_there, enabled_there, found, set_same}
use Rattle.rsx_subscriber.proofs.Moves.{inside_effect, inside_enabled}
use Rattle.rsx_graph_moves.proofs.trees.make_in_tree.Goals as goal

pub returns-in-Ok-clause-count : goal.returns-in-Ok-clause-count
returns-in-Ok-clause-count g c = length-set c.args.subscriptions.now.items c.args.sub.0 c.make.new.self

pub returns-in-Err-NotEnabled-clause-count : goal.returns-in-Err-NotEnabled-clause-count
returns-in-Err-NotEnabled-clause-count g c = length-set c.args.subscriptions.now.items c.args.sub.0 c.make.new.self

pub returns-in-Err-NoMemory-clause-count : goal.returns-in-Err-NoMemory-clause-count
returns-in-Err-NoMemory-clause-count g c = length-set c.args.subscriptions.now.items c.args.sub.0 c.make.new.self

pub returns-in-Ok-clause-stands : goal.returns-in-Ok-clause-stands
returns-in-Ok-clause-stands g c = λ published pasts s.
    let m = g.O.Ops.meaning c.args.ops.now in
    let l = c.len.ensures in
    let within : c.args.sub.0 < length c.args.subscriptions.now.items = omega (arith, l, c.if-at-len.false) in
    AllStand-moved g.N.Machine m published c.args.subscriptions.now.items pasts c.args.sub.0 c.index_mut-subscription.result.now c.make.new.self within (sym c.index_mut-subscription.ensures.value) (λ p k. c.in-Ok.ensures.stands published p k) s

pub returns-in-Ok-clause-enabled : goal.returns-in-Ok-clause-enabled
returns-in-Ok-clause-enabled g c =
    let m = g.O.Ops.meaning c.args.ops.now in
    let l = c.len.ensures in
    let within : c.args.sub.0 < length c.args.subscriptions.now.items = omega (arith, l, c.if-at-len.false) in
    enabled_there g.N.Machine g.N.Nodes m c.args.subscriptions.now.items c.args.sub.0 c.index_mut-subscription.result.now c.args.step within (sym c.index_mut-subscription.ensures.value) ∙ (sym (inside_enabled g.N.Machine g.N.Nodes m c.index_mut-subscription.result.now c.args.step c.requires) ∙ c.in-Ok.ensures.enabled)

pub returns-in-Ok-clause-effect : goal.returns-in-Ok-clause-effect
returns-in-Ok-clause-effect g c =
    let m = g.O.Ops.meaning c.args.ops.now in
    let l = c.len.ensures in
    let within : c.args.sub.0 < length c.args.subscriptions.now.items = omega (arith, l, c.if-at-len.false) in
    record {
      old = c.index_mut-subscription.result.now;
      new = c.make.new.self;
      there = found c.args.subscriptions.now.items c.args.sub.0 c.index_mut-subscription.result.now within (sym c.index_mut-subscription.ensures.value);
      effect = inside_effect g.N.Machine g.N.Nodes m c.args.step c.index_mut-subscription.result.now c.make.new.self c.requires c.in-Ok.ensures.effect;
      others = refl;
    }

pub returns-in-Ok-clause-alone : goal.returns-in-Ok-clause-alone
returns-in-Ok-clause-alone g c =
    let m = g.O.Ops.meaning c.args.ops.now in
    let l = c.len.ensures in
    let within : c.args.sub.0 < length c.args.subscriptions.now.items = omega (arith, l, c.if-at-len.false) in
    alone_at g.N.Machine g.N.Nodes m c.args.step c.args.sub.0 c.args.subscriptions.now.items c.index_mut-subscription.result.now c.make.new.self
    (found c.args.subscriptions.now.items c.args.sub.0 c.index_mut-subscription.result.now within (sym c.index_mut-subscription.ensures.value)) c.in-Ok.ensures.alone

pub returns-in-Err-NotEnabled-clause-err : goal.returns-in-Err-NotEnabled-clause-err
returns-in-Err-NotEnabled-clause-err g c =
    let refused = rw c.in-Err-NotEnabled.field-0-is at c.in-Err-NotEnabled.ensures.err in
    let m = g.O.Ops.meaning c.args.ops.now in
    let l = c.len.ensures in
    let within : c.args.sub.0 < length c.args.subscriptions.now.items = omega (arith, l, c.if-at-len.false) in
    (within, enabled_there g.N.Machine g.N.Nodes m c.args.subscriptions.now.items c.args.sub.0 c.index_mut-subscription.result.now c.args.step within (sym c.index_mut-subscription.ensures.value) ∙ (sym (inside_enabled g.N.Machine g.N.Nodes m c.index_mut-subscription.result.now c.args.step c.requires) ∙ refused))

pub returns-in-Err-NotEnabled-clause-same : goal.returns-in-Err-NotEnabled-clause-same
returns-in-Err-NotEnabled-clause-same g c =
    let m = g.O.Ops.meaning c.args.ops.now in
    let l = c.len.ensures in
    let within : c.args.sub.0 < length c.args.subscriptions.now.items = omega (arith, l, c.if-at-len.false) in
    set_same c.args.subscriptions.now.items c.args.sub.0 c.index_mut-subscription.result.now c.make.new.self within (sym c.index_mut-subscription.ensures.value) c.in-Err-NotEnabled.ensures.same

pub returns-in-Err-NoMemory-clause-err : goal.returns-in-Err-NoMemory-clause-err
returns-in-Err-NoMemory-clause-err g c =
    let refused = rw c.in-Err-NoMemory.field-0-is at c.in-Err-NoMemory.ensures.err in
    let m = g.O.Ops.meaning c.args.ops.now in
    let l = c.len.ensures in
    let within : c.args.sub.0 < length c.args.subscriptions.now.items = omega (arith, l, c.if-at-len.false) in
    (within, enabled_there g.N.Machine g.N.Nodes m c.args.subscriptions.now.items c.args.sub.0 c.index_mut-subscription.result.now c.args.step within (sym c.index_mut-subscription.ensures.value) ∙ (sym (inside_enabled g.N.Machine g.N.Nodes m c.index_mut-subscription.result.now c.args.step c.requires) ∙ refused))

pub returns-in-Err-NoMemory-clause-same : goal.returns-in-Err-NoMemory-clause-same
returns-in-Err-NoMemory-clause-same g c =
    let m = g.O.Ops.meaning c.args.ops.now in
    let l = c.len.ensures in
    let within : c.args.sub.0 < length c.args.subscriptions.now.items = omega (arith, l, c.if-at-len.false) in
    set_same c.args.subscriptions.now.items c.args.sub.0 c.index_mut-subscription.result.now c.make.new.self within (sym c.index_mut-subscription.ensures.value) c.in-Err-NoMemory.ensures.same

pub returns-in-Err-NoMemory-clause-memory : goal.returns-in-Err-NoMemory-clause-memory
returns-in-Err-NoMemory-clause-memory g c = λ none _.
    let refused = rw c.in-Err-NoMemory.field-0-is at c.in-Err-NoMemory.ensures.memory in
    let l = c.len.ensures in
    let within : c.args.sub.0 < length c.args.subscriptions.now.items = omega (arith, l, c.if-at-len.false) in
    let k = refused (sym (allocates_there g.N.Machine g.N.Nodes (g.O.Ops.allocates c.args.ops.now) c.args.subscriptions.now.items c.args.sub.0 c.index_mut-subscription.result.now c.args.step within (sym c.index_mut-subscription.ensures.value)) ∙ none) in
    cc
