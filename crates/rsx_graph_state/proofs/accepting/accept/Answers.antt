use Rattle.std.proofs.Common.{◌<◌, arith, length}
use Rattle.rsx_graph_state.proofs.Calls.{fed_accepts_none, place_is}
use Rattle.rsx_graph_state.proofs.Kept.{accepted_stands}
use Rattle.rsx_graph_state.proofs.Places.{unfed_there}
use Rattle.rsx_graph_state.specs.Moves.{rows_of}
use Rattle.rsx_graph_state.proofs.accepting.accept.Goals as goal

pub returns-in-Some-clause-err : goal.returns-in-Some-clause-err
returns-in-Some-clause-err g c =
    let l = c.len.ensures in
    let within : c.args.hub.0 < length c.args.hubs.now.items = omega (arith, l, c.if-hub-len.false) in
    (within, fed_accepts_none g.N.Machine c.args.hub.0 c.in-Some.field-0 c.args.hubs.now.items c.args.feeds.now.items c.args.subscriptions.now.items (place_is c.args.hub.0 c.args.feeds.now.items c.deref.result.now c.place_of.result _ c.deref.ensures.value c.place_of.ensures c.in-Some.is))

pub accept_once-requires-clause-unfed : goal.accept_once-requires-clause-unfed
accept_once-requires-clause-unfed g c κs within = unfed_there c.args.feeds.now.items c.args.hub.0 (place_is c.args.hub.0 c.args.feeds.now.items c.deref.result.now c.place_of.result _ c.deref.ensures.value c.place_of.ensures c.in_default.is)

pub returns-in-Ok-clause-stands : goal.returns-in-Ok-clause-stands
returns-in-Ok-clause-stands g c = λ m h s.
    accepted_stands g.N.Machine m c.args.hub (rows_of c.args.hubs.now.items c.args.feeds.now.items c.args.subscriptions.now.items) (rows_of c.accept_once.new.hubs.items c.accept_once.new.feeds.items c.accept_once.new.subscriptions.items) h c.in-Ok.ensures.effect s

pub returns-in-Err-NotEnabled-clause-err : goal.returns-in-Err-NotEnabled-clause-err
returns-in-Err-NotEnabled-clause-err g c =
    let l = c.len.ensures in
    let within : c.args.hub.0 < length c.args.hubs.now.items = omega (arith, l, c.if-hub-len.false) in
    (within, rw c.in-Err-NotEnabled.field-0-is at c.in-Err-NotEnabled.ensures.err)

pub returns-in-Err-NoMemory-clause-err : goal.returns-in-Err-NoMemory-clause-err
returns-in-Err-NoMemory-clause-err g c =
    let l = c.len.ensures in
    let within : c.args.hub.0 < length c.args.hubs.now.items = omega (arith, l, c.if-hub-len.false) in
    (within, rw c.in-Err-NoMemory.field-0-is at c.in-Err-NoMemory.ensures.err)
