use Rattle.std.proofs.Common.{◌<◌, ◌≤◌, arith, length, sym}
use Rattle.rsx_graph_state.proofs.Calls.{place_is}
use Rattle.rsx_graph_state.proofs.Places.{unfed_there}
use Rattle.rsx_graph_calls.proofs.Published.{emitter_hub, fed_hub, unknown_hub}
use Rattle.rsx_graph_calls.proofs.publishing.has_emitter.Goals as goal

pub returns-then-hub-len-clause-is : goal.returns-then-hub-len-clause-is
returns-then-hub-len-clause-is g c =
    let l = c.len.ensures in
    let behind : length c.args.hubs.now.items ≤ c.args.hub.0 = omega (arith, l, c.if-hub-len.true) in
    sym (unknown_hub c.args.hubs.now.items c.args.feeds.now.items c.args.hub.0 behind)

pub returns-in-Some-clause-is : goal.returns-in-Some-clause-is
returns-in-Some-clause-is g c =
    sym (fed_hub c.args.hubs.now.items c.args.feeds.now.items c.args.hub.0 c.in-Some.field-0
    (place_is c.args.hub.0 c.args.feeds.now.items c.deref.result.now c.place_of.result _ c.deref.ensures.value c.place_of.ensures c.in-Some.is))

pub returns-in-None-clause-is : goal.returns-in-None-clause-is
returns-in-None-clause-is g c =
    let l = c.len.ensures in
    let within : c.args.hub.0 < length c.args.hubs.now.items = omega (arith, l, c.if-hub-len.false) in
    sym (emitter_hub c.args.hubs.now.items c.args.feeds.now.items c.args.hub.0 within
    (place_is c.args.hub.0 c.args.feeds.now.items c.deref.result.now c.place_of.result _ c.deref.ensures.value c.place_of.ensures c.in-None.is))

pub returns-in-None-clause-there : goal.returns-in-None-clause-there
returns-in-None-clause-there g c = λ _. let l = c.len.ensures in omega (arith, l, c.if-hub-len.false)

pub returns-in-None-clause-unfed : goal.returns-in-None-clause-unfed
returns-in-None-clause-unfed g c = λ _.
    unfed_there c.args.feeds.now.items c.args.hub.0
    (place_is c.args.hub.0 c.args.feeds.now.items c.deref.result.now c.place_of.result _ c.deref.ensures.value c.place_of.ensures c.in-None.is)
