use Rattle.std.proofs.Common.{◌<◌, ◌∙◌, arith, false, length, refl, sym, true}
use Rattle.std.proofs.lemmas.List.{length-set}
use Rattle.rsx_subscriber.proofs.Moves.{delivery_enabled}
use Rattle.rsx_subscriber.specs.Prelude.{delivery}
use Rattle.rsx_graph_state.proofs.Graphs.{enabled_there, set_same}
use Rattle.rsx_graph_moves.proofs.Times.{times_taken}
use Rattle.rsx_graph_moves.proofs.many.take_into.Goals as goal

pub returns-in-Ok-clause-count : goal.returns-in-Ok-clause-count
returns-in-Ok-clause-count g c = length-set c.args.subscriptions.now.items c.args.sub.0 c.take_into.new.self

pub returns-in-Err-NotEnabled-clause-count : goal.returns-in-Err-NotEnabled-clause-count
returns-in-Err-NotEnabled-clause-count g c = length-set c.args.subscriptions.now.items c.args.sub.0 c.take_into.new.self

pub returns-in-Err-NoMemory-clause-count : goal.returns-in-Err-NoMemory-clause-count
returns-in-Err-NoMemory-clause-count g c = length-set c.args.subscriptions.now.items c.args.sub.0 c.take_into.new.self

pub returns-in-Ok-clause-made : goal.returns-in-Ok-clause-made
returns-in-Ok-clause-made g c = λ m hubs feeds.
    let l = c.len.ensures in
    let within : c.args.sub.0 < length c.args.subscriptions.now.items = omega (arith, l, c.if-at-len.false) in
    times_taken g.N.Machine g.N.Nodes m c.args.sub c.args.subscriptions.now.items c.index_mut-subscription.result.now c.take_into.new.self c.args.out.now c.take_into.new.out hubs feeds within (sym c.index_mut-subscription.ensures.value) c.in-Ok.ensures.enabled c.in-Ok.ensures.taken

pub returns-in-Err-NotEnabled-clause-err : goal.returns-in-Err-NotEnabled-clause-err
returns-in-Err-NotEnabled-clause-err g c = λ m.
    let refused = rw c.in-Err-NotEnabled.field-0-is at c.in-Err-NotEnabled.ensures.err in
    let l = c.len.ensures in
    let within : c.args.sub.0 < length c.args.subscriptions.now.items = omega (arith, l, c.if-at-len.false) in
    (within, enabled_there g.N.Machine g.N.Nodes m c.args.subscriptions.now.items c.args.sub.0 c.index_mut-subscription.result.now (delivery c.args.sub) within (sym c.index_mut-subscription.ensures.value) ∙ delivery_enabled g.N.Machine g.N.Nodes m c.args.sub c.index_mut-subscription.result.now false refused)

pub returns-in-Err-NoMemory-clause-err : goal.returns-in-Err-NoMemory-clause-err
returns-in-Err-NoMemory-clause-err g c = λ m.
    let refused = rw c.in-Err-NoMemory.field-0-is at c.in-Err-NoMemory.ensures.err in
    let l = c.len.ensures in
    let within : c.args.sub.0 < length c.args.subscriptions.now.items = omega (arith, l, c.if-at-len.false) in
    (within, enabled_there g.N.Machine g.N.Nodes m c.args.subscriptions.now.items c.args.sub.0 c.index_mut-subscription.result.now (delivery c.args.sub) within (sym c.index_mut-subscription.ensures.value) ∙ delivery_enabled g.N.Machine g.N.Nodes m c.args.sub c.index_mut-subscription.result.now true refused)

pub returns-in-Err-NoMemory-clause-full : goal.returns-in-Err-NoMemory-clause-full
returns-in-Err-NoMemory-clause-full g c = λ _. let full = rw c.in-Err-NoMemory.field-0-is at c.in-Err-NoMemory.ensures.full in full refl

pub returns-in-Err-NotEnabled-clause-same : goal.returns-in-Err-NotEnabled-clause-same
returns-in-Err-NotEnabled-clause-same g c =
    let l = c.len.ensures in
    let within : c.args.sub.0 < length c.args.subscriptions.now.items = omega (arith, l, c.if-at-len.false) in
    let same = c.in-Err-NotEnabled.ensures.same in
    (set_same c.args.subscriptions.now.items c.args.sub.0 c.index_mut-subscription.result.now c.take_into.new.self within (sym c.index_mut-subscription.ensures.value) same.0, same.1)

pub returns-in-Err-NoMemory-clause-same : goal.returns-in-Err-NoMemory-clause-same
returns-in-Err-NoMemory-clause-same g c =
    let l = c.len.ensures in
    let within : c.args.sub.0 < length c.args.subscriptions.now.items = omega (arith, l, c.if-at-len.false) in
    let same = c.in-Err-NoMemory.ensures.same in
    (set_same c.args.subscriptions.now.items c.args.sub.0 c.index_mut-subscription.result.now c.take_into.new.self within (sym c.index_mut-subscription.ensures.value) same.0, same.1)
