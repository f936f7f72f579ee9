use Rattle.std.proofs.Common.{◌≡◌, [], ap, arith, length, refl}
use Rattle.rsx_graph_state.specs.Moves.{rows_of}
use Rattle.rsx_graph_state.proofs.Calls.{place_is}
use Rattle.rsx_graph_moves.proofs.Driving.{made_none}
use Rattle.rsx_graph_moves.proofs.Readers.{apart_unread, left_as_was}
use Rattle.rsx_graph_moves.proofs.Rest.{fewer_idle}
use Rattle.rsx_graph_moves.proofs.hubs.serve.Goals as goal

pub rests-requires-clause-place : goal.rests-requires-clause-place
rests-requires-clause-place g c = place_is c.args.hub.0 c.args.feeds.now.items c.deref.result.now c.place_of-at.result _ c.deref.ensures.value c.place_of-at.ensures refl

pub returns-then-rests-clause-served : goal.returns-then-rests-clause-served
returns-then-rests-clause-served g c =
    let m = g.O.Ops.meaning c.args.ops.now in
    let rows = rows_of c.args.hubs.now.items c.args.feeds.now.items c.args.subscriptions.now.items in
    ([], (omega arith, c.rests.ensures m c.args.subscriptions.now.items c.if-rests.true), made_none g.N.Machine g.N.Nodes m rows, refl)

pub take_in_all-served-requires-clause-place : goal.take_in_all-served-requires-clause-place
take_in_all-served-requires-clause-place g c = λ _ _. place_is c.args.hub.0 c.args.feeds.now.items c.deref.result.now c.place_of-at.result _ c.deref.ensures.value c.place_of-at.ensures refl

pub take_in_all-served-requires-clause-unread : goal.take_in_all-served-requires-clause-unread
take_in_all-served-requires-clause-unread g c = λ _ _.
    let m = g.O.Ops.meaning c.args.ops.now in
    let len = c.len.ensures in
    let many : c.len.result ≡ length c.args.subscriptions.now.items = omega (arith, len) in
    apart_unread g.N.Machine m c.args.hub.0 c.len.result c.look_for_readers.new.idle c.apart_from-apart.result c.those_in-skipped.result c.args.subscriptions.now.items many c.apart_from-apart.ensures c.those_in-skipped.ensures.only (c.look_for_readers.ensures m c.requires.idle)

pub returns-then-has_moved-clause-idle : goal.returns-then-has_moved-clause-idle
returns-then-has_moved-clause-idle g c =
    let m = g.O.Ops.meaning c.args.ops.now in
    let subs = c.args.subscriptions.now.items in
    let quiet = fewer_idle g.N.Machine m c.look_for_readers.new.idle c.keep.new.self subs subs (λ i within. ((c.keep.ensures.idle i).0 within).0) c.keep.ensures.apart refl (c.look_for_readers.ensures m c.requires.idle) in
    c.take_in_all-served.ensures.idle c.keep.new.self (λ i within. c.those_in-skipped.ensures.all i ((c.keep.ensures.idle i).0 within).1) quiet

pub returns-else-has_moved-clause-idle : goal.returns-else-has_moved-clause-idle
returns-else-has_moved-clause-idle g c =
    let m = g.O.Ops.meaning c.args.ops.now in
    let old = rows_of c.args.hubs.now.items c.args.feeds.now.items c.args.subscriptions.now.items in
    let new = rows_of c.take_in_all-served.new.hubs.items c.take_in_all-served.new.feeds.items c.take_in_all-served.new.subscriptions.items in
    let still = left_as_was g.N.Machine g.N.Nodes m c.args.hub.0 c.args.budget old new c.take_in_all-served.result (c.has_moved.ensures c.if-has_moved.false) c.take_in_all-served.ensures.served in
    fewer_idle g.N.Machine m c.look_for_readers.new.idle c.look_for_readers.new.idle old.subs new.subs (λ i within. within) (λ h i known. known) (ap (λ r. r.subs) still) (c.look_for_readers.ensures m c.requires.idle)
