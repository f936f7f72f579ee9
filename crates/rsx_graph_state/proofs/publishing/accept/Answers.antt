use Rattle.std.proofs.Common.{true}
use Rattle.rsx_graph_state.proofs.Accepted.{all_accepted, it_can, none_read}
use Rattle.rsx_graph_state.proofs.publishing.accept.Goals as goal

pub ready_readers-requires : goal.ready_readers-requires
ready_readers-requires g c = record { unread = none_read g.N.Machine c.from-number.result c.args.number c.args.skipped.now c.args.subscriptions.now c.from-number.ensures c.requires.unread }

pub hand_to_all-requires : goal.hand_to_all-requires
hand_to_all-requires g c = record { unread = none_read g.N.Machine c.from-number.result c.args.number c.args.skipped.now c.args.subscriptions.now c.from-number.ensures c.requires.unread }

pub returns-in-Ok-clause-ok : goal.returns-in-Ok-clause-ok
returns-in-Ok-clause-ok g c =
    (all_accepted g.N.Machine c.from-number.result c.args.number c.in-Some.readers 4294967295 c.args.hub.now c.take_in.new.hub c.args.feeds.now c.hand_to_all.new.feeds c.args.subscriptions.now c.hand_to_all.new.subscriptions c.take_in.new.signals.items c.hand_to_all.new.signals.items
    c.from-number.ensures c.in-Some.ensures.enabled c.in-Some.ensures.some c.if-readers.false c.in-Ok.ensures.signals c.in-Ok.ensures.taken c.hand_to_all.ensures).0

pub returns-in-Ok-clause-empty : goal.returns-in-Ok-clause-empty
returns-in-Ok-clause-empty g c =
    (all_accepted g.N.Machine c.from-number.result c.args.number c.in-Some.readers 4294967295 c.args.hub.now c.take_in.new.hub c.args.feeds.now c.hand_to_all.new.feeds c.args.subscriptions.now c.hand_to_all.new.subscriptions c.take_in.new.signals.items c.hand_to_all.new.signals.items
    c.from-number.ensures c.in-Some.ensures.enabled c.in-Some.ensures.some c.if-readers.false c.in-Ok.ensures.signals c.in-Ok.ensures.taken c.hand_to_all.ensures).1

pub returns-in-Err-clause-err : goal.returns-in-Err-clause-err
returns-in-Err-clause-err g c = it_can g.N.Machine c.from-number.result c.args.number true c.args.hub.now c.args.feeds.now c.args.subscriptions.now c.from-number.ensures c.in-Some.ensures.enabled
