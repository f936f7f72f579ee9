use Rattle.std.proofs.Common.{◌<◌, ◌∙◌, arith, false, length, refl, sym, true}
use Rattle.rsx_graph_state.proofs.Alone.{alone_out}
use Rattle.rsx_graph_state.proofs.Calls.{known_feed, place_is, out_allocates, out_enabled, out_moved, unknown_feed, unknown_hub, work_allocates, work_enabled, work_moved}
use Rattle.rsx_graph_state.proofs.Kept.{feed_moved_stands}
use Rattle.rsx_graph_state.proofs.Places.{feed_placed}
use Rattle.rsx_graph_state.specs.Moves.{rows_of}
use Rattle.rsx_graph_state.proofs.feed_moves.make_in_feed.Goals as goal

pub returns-then-hub-len-clause-err : goal.returns-then-hub-len-clause-err
returns-then-hub-len-clause-err g c =
    let l = c.len.ensures in
    unknown_hub c.args.hub.0 (rows_of c.args.hubs.now.items c.args.feeds.now.items c.args.subscriptions.now.items) (omega (arith, l, c.if-hub-len.true))

pub returns-in_default-clause-err : goal.returns-in_default-clause-err
returns-in_default-clause-err g c =
    let l = c.len.ensures in
    let within : c.args.hub.0 < length c.args.hubs.now.items = omega (arith, l, c.if-hub-len.false) in
    unknown_feed c.args.hub.0 (rows_of c.args.hubs.now.items c.args.feeds.now.items c.args.subscriptions.now.items) within (place_is c.args.hub.0 c.args.feeds.now.items c.deref.result.now c.place_of.result _ c.deref.ensures.value c.place_of.ensures c.in_default.is)

pub send_once-requires-clause-place : goal.send_once-requires-clause-place
send_once-requires-clause-place g c κs within = place_is c.args.hub.0 c.args.feeds.now.items c.deref.result.now c.place_of.result _ c.deref.ensures.value c.place_of.ensures c.in-Some.is

pub send_once-requires-clause-within : goal.send_once-requires-clause-within
send_once-requires-clause-within g c κs within = (feed_placed c.args.feeds.now.items c.args.hub.0 c.in-Some.at (place_is c.args.hub.0 c.args.feeds.now.items c.deref.result.now c.place_of.result _ c.deref.ensures.value c.place_of.ensures c.in-Some.is)).within

pub work_in_feed-requires-clause-within : goal.work_in_feed-requires-clause-within
work_in_feed-requires-clause-within g c κs within = (feed_placed c.args.feeds.now.items c.args.hub.0 c.in-Some.at (place_is c.args.hub.0 c.args.feeds.now.items c.deref.result.now c.place_of.result _ c.deref.ensures.value c.place_of.ensures c.in-Some.is)).within

pub work_in_feed-requires-clause-place : goal.work_in_feed-requires-clause-place
work_in_feed-requires-clause-place g c κs within = place_is c.args.hub.0 c.args.feeds.now.items c.deref.result.now c.place_of.result _ c.deref.ensures.value c.place_of.ensures c.in-Some.is

pub returns-in-Ok-clause-effect : goal.returns-in-Ok-clause-effect
returns-in-Ok-clause-effect g c =
    let old = rows_of c.args.hubs.now.items c.args.feeds.now.items c.args.subscriptions.now.items in
    let new = rows_of c.send_once.new.hubs.items c.send_once.new.feeds.items c.send_once.new.subscriptions.items in
    out_moved g.N.Machine (g.O.Ops.meaning c.args.ops.now) c.args.hub.0 old new c.args.step (sym c.is_out.ensures ∙ c.in-true.is) c.in-Ok.ensures.effect

pub returns-in-Ok-clause-alone : goal.returns-in-Ok-clause-alone
returns-in-Ok-clause-alone g c = λ at old new place was now.
    alone_out g.N.Machine (g.O.Ops.meaning c.args.ops.now) c.args.step old.part new.part (sym c.is_out.ensures ∙ c.in-true.is)

pub returns-in-Ok-clause-enabled : goal.returns-in-Ok-clause-enabled
returns-in-Ok-clause-enabled g c =
    let l = c.len.ensures in
    let within : c.args.hub.0 < length c.args.hubs.now.items = omega (arith, l, c.if-hub-len.false) in
    let old = rows_of c.args.hubs.now.items c.args.feeds.now.items c.args.subscriptions.now.items in
    let place = place_is c.args.hub.0 c.args.feeds.now.items c.deref.result.now c.place_of.result _ c.deref.ensures.value c.place_of.ensures c.in-Some.is in
    out_enabled g.N.Machine (g.O.Ops.meaning c.args.ops.now) c.args.hub.0 old c.args.step true (known_feed c.args.hub.0 c.in-Some.at old within place) (sym c.is_out.ensures ∙ c.in-true.is) c.in-Ok.ensures.enabled

pub returns-in-Ok-clause-stands : goal.returns-in-Ok-clause-stands
returns-in-Ok-clause-stands g c = λ h s.
    let old = rows_of c.args.hubs.now.items c.args.feeds.now.items c.args.subscriptions.now.items in
    let new = rows_of c.send_once.new.hubs.items c.send_once.new.feeds.items c.send_once.new.subscriptions.items in
    feed_moved_stands g.N.Machine (g.O.Ops.meaning c.args.ops.now) c.args.step c.args.hub.0 old new h (returns-in-Ok-clause-effect g c) s

pub returns-in-Err-NotEnabled-clause-err : goal.returns-in-Err-NotEnabled-clause-err
returns-in-Err-NotEnabled-clause-err g c =
    let l = c.len.ensures in
    let within : c.args.hub.0 < length c.args.hubs.now.items = omega (arith, l, c.if-hub-len.false) in
    let old = rows_of c.args.hubs.now.items c.args.feeds.now.items c.args.subscriptions.now.items in
    let place = place_is c.args.hub.0 c.args.feeds.now.items c.deref.result.now c.place_of.result _ c.deref.ensures.value c.place_of.ensures c.in-Some.is in
    let known = known_feed c.args.hub.0 c.in-Some.at old within place in
    (known, out_enabled g.N.Machine (g.O.Ops.meaning c.args.ops.now) c.args.hub.0 old c.args.step false known (sym c.is_out.ensures ∙ c.in-true.is) (rw c.in-Err-NotEnabled.field-0-is at c.in-Err-NotEnabled.ensures.err))

pub returns-in-Err-NoMemory-clause-err : goal.returns-in-Err-NoMemory-clause-err
returns-in-Err-NoMemory-clause-err g c =
    let l = c.len.ensures in
    let within : c.args.hub.0 < length c.args.hubs.now.items = omega (arith, l, c.if-hub-len.false) in
    let old = rows_of c.args.hubs.now.items c.args.feeds.now.items c.args.subscriptions.now.items in
    let place = place_is c.args.hub.0 c.args.feeds.now.items c.deref.result.now c.place_of.result _ c.deref.ensures.value c.place_of.ensures c.in-Some.is in
    let known = known_feed c.args.hub.0 c.in-Some.at old within place in
    (known, out_enabled g.N.Machine (g.O.Ops.meaning c.args.ops.now) c.args.hub.0 old c.args.step true known (sym c.is_out.ensures ∙ c.in-true.is) (rw c.in-Err-NoMemory.field-0-is at c.in-Err-NoMemory.ensures.err))

pub returns-in-Err-NoMemory-clause-memory : goal.returns-in-Err-NoMemory-clause-memory
returns-in-Err-NoMemory-clause-memory g c = λ free _. out_allocates g.N.Machine (g.O.Ops.allocates c.args.ops.now) c.args.feeds.now.items c.args.hub.0 c.args.step (sym c.is_out.ensures ∙ c.in-true.is) free

pub returns-in-Ok-work_in_feed-clause-effect : goal.returns-in-Ok-work_in_feed-clause-effect
returns-in-Ok-work_in_feed-clause-effect g c =
    let old = rows_of c.args.hubs.now.items c.args.feeds.now.items c.args.subscriptions.now.items in
    let new = rows_of c.args.hubs.now.items c.work_in_feed.new.feeds.items c.args.subscriptions.now.items in
    work_moved g.N.Machine (g.O.Ops.meaning c.args.ops.now) c.args.hub.0 old new c.args.step (sym c.is_out.ensures ∙ c.in-false.is) (record { made = c.in-Ok-work_in_feed.ensures.effect; hubs = refl; subs = refl })

pub returns-in-Ok-work_in_feed-clause-enabled : goal.returns-in-Ok-work_in_feed-clause-enabled
returns-in-Ok-work_in_feed-clause-enabled g c =
    let l = c.len.ensures in
    let within : c.args.hub.0 < length c.args.hubs.now.items = omega (arith, l, c.if-hub-len.false) in
    let old = rows_of c.args.hubs.now.items c.args.feeds.now.items c.args.subscriptions.now.items in
    let place = place_is c.args.hub.0 c.args.feeds.now.items c.deref.result.now c.place_of.result _ c.deref.ensures.value c.place_of.ensures c.in-Some.is in
    work_enabled g.N.Machine (g.O.Ops.meaning c.args.ops.now) c.args.hub.0 old c.args.step true (known_feed c.args.hub.0 c.in-Some.at old within place) (sym c.is_out.ensures ∙ c.in-false.is) c.in-Ok-work_in_feed.ensures.enabled

pub returns-in-Ok-work_in_feed-clause-stands : goal.returns-in-Ok-work_in_feed-clause-stands
returns-in-Ok-work_in_feed-clause-stands g c = λ h s.
    let old = rows_of c.args.hubs.now.items c.args.feeds.now.items c.args.subscriptions.now.items in
    let new = rows_of c.args.hubs.now.items c.work_in_feed.new.feeds.items c.args.subscriptions.now.items in
    feed_moved_stands g.N.Machine (g.O.Ops.meaning c.args.ops.now) c.args.step c.args.hub.0 old new h (returns-in-Ok-work_in_feed-clause-effect g c) s

pub returns-in-Err-NotEnabled-work_in_feed-clause-err : goal.returns-in-Err-NotEnabled-work_in_feed-clause-err
returns-in-Err-NotEnabled-work_in_feed-clause-err g c =
    let l = c.len.ensures in
    let within : c.args.hub.0 < length c.args.hubs.now.items = omega (arith, l, c.if-hub-len.false) in
    let old = rows_of c.args.hubs.now.items c.args.feeds.now.items c.args.subscriptions.now.items in
    let place = place_is c.args.hub.0 c.args.feeds.now.items c.deref.result.now c.place_of.result _ c.deref.ensures.value c.place_of.ensures c.in-Some.is in
    let known = known_feed c.args.hub.0 c.in-Some.at old within place in
    (known, work_enabled g.N.Machine (g.O.Ops.meaning c.args.ops.now) c.args.hub.0 old c.args.step false known (sym c.is_out.ensures ∙ c.in-false.is) (rw c.in-Err-NotEnabled-work_in_feed.field-0-is at c.in-Err-NotEnabled-work_in_feed.ensures.err))

pub returns-in-Err-NoMemory-work_in_feed-clause-err : goal.returns-in-Err-NoMemory-work_in_feed-clause-err
returns-in-Err-NoMemory-work_in_feed-clause-err g c =
    let l = c.len.ensures in
    let within : c.args.hub.0 < length c.args.hubs.now.items = omega (arith, l, c.if-hub-len.false) in
    let old = rows_of c.args.hubs.now.items c.args.feeds.now.items c.args.subscriptions.now.items in
    let place = place_is c.args.hub.0 c.args.feeds.now.items c.deref.result.now c.place_of.result _ c.deref.ensures.value c.place_of.ensures c.in-Some.is in
    let known = known_feed c.args.hub.0 c.in-Some.at old within place in
    (known, work_enabled g.N.Machine (g.O.Ops.meaning c.args.ops.now) c.args.hub.0 old c.args.step true known (sym c.is_out.ensures ∙ c.in-false.is) (rw c.in-Err-NoMemory-work_in_feed.field-0-is at c.in-Err-NoMemory-work_in_feed.ensures.err))

pub returns-in-Err-NoMemory-work_in_feed-clause-memory : goal.returns-in-Err-NoMemory-work_in_feed-clause-memory
returns-in-Err-NoMemory-work_in_feed-clause-memory g c = λ free _.
    let only = rw c.in-Err-NoMemory-work_in_feed.field-0-is at c.in-Err-NoMemory-work_in_feed.ensures.memory in
    let no = only (work_allocates g.N.Machine (g.O.Ops.allocates c.args.ops.now) c.args.feeds.now.items c.args.hub.0 c.args.step (sym c.is_out.ensures ∙ c.in-false.is) free) in
    cc
