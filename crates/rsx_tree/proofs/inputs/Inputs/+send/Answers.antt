use Rattle.std.proofs.Common.{arith, rules}
use Rattle.rsx_tree.specs.Changed.{IsReceivedOver, IsSentOver}
use Rattle.rsx_tree.proofs.Changes.{changed_here, changed_beside, changed_below, place_beside, place_below}
use Rattle.rsx_tree.proofs.inputs.Inputs.+send.Goals as goal

pub returns-in-Ok-clause-made : goal.returns-in-Ok-clause-made
returns-in-Ok-clause-made g t c = λ asked sent.
    changed_here (IsSentOver g.M.Machine (g.O.Ops.meaning c.args.ops.now)) g.M.Machine.ended c.args.receiver.now c.send_over.new.receiver c.args.input asked sent c.args.self.now c.in-More.edge c.send_over.new.edge c.in-More.machine c.send_over.new.sender c.in-More.below c.in-More.beside c.args.at
    c.in-More.is c.if-at-eq0.true (c.in-Ok.ensures.made asked sent)

pub returns-in-Ok-send-clause-made : goal.returns-in-Ok-send-clause-made
returns-in-Ok-send-clause-made g t c = λ asked sent.
    changed_beside (IsSentOver g.M.Machine (g.O.Ops.meaning c.args.ops.now)) g.M.Machine.ended c.args.receiver.now c.send.new.receiver c.args.input asked sent c.args.self.now c.in-More.edge c.in-More.machine c.in-More.below c.in-More.beside c.deref.result.now c.deref_mut.result.now c.send.new.self c.args.at c.count_up_to-inside.result
    c.in-More.is c.deref.ensures c.deref_mut.ensures.value c.count_up_to-inside.ensures c.if-at-inside.true (c.in-Ok-send.ensures.made asked sent)

pub returns-in-Ok-clause-received : goal.returns-in-Ok-clause-received
returns-in-Ok-clause-received g t c = λ asked sent.
    changed_here (IsReceivedOver g.M.Machine (g.O.Ops.meaning c.args.ops.now)) g.M.Machine.ended c.args.receiver.now c.send_over.new.receiver c.args.input asked sent c.args.self.now c.in-More.edge c.send_over.new.edge c.in-More.machine c.send_over.new.sender c.in-More.below c.in-More.beside c.args.at
    c.in-More.is c.if-at-eq0.true c.in-Ok.ensures.received

pub returns-in-Ok-send-clause-received : goal.returns-in-Ok-send-clause-received
returns-in-Ok-send-clause-received g t c = λ asked sent.
    changed_beside (IsReceivedOver g.M.Machine (g.O.Ops.meaning c.args.ops.now)) g.M.Machine.ended c.args.receiver.now c.send.new.receiver c.args.input asked sent c.args.self.now c.in-More.edge c.in-More.machine c.in-More.below c.in-More.beside c.deref.result.now c.deref_mut.result.now c.send.new.self c.args.at c.count_up_to-inside.result
    c.in-More.is c.deref.ensures c.deref_mut.ensures.value c.count_up_to-inside.ensures c.if-at-inside.true (c.in-Ok-send.ensures.received asked sent)

pub returns-in-Ok-send-2-clause-received : goal.returns-in-Ok-send-2-clause-received
returns-in-Ok-send-2-clause-received g t c = λ asked sent.
    changed_below (IsReceivedOver g.M.Machine (g.O.Ops.meaning c.args.ops.now)) g.M.Machine.ended c.args.receiver.now c.args.input asked sent c.args.self.now c.in-More.edge c.in-More.machine c.send-in-More.new.receiver c.in-More.below c.in-More.beside c.deref.result.now c.deref_mut-in-More.result.now c.send-in-More.new.self c.close_if.new.self c.args.at c.count_up_to-inside.result
    c.in-More.is c.deref.ensures c.deref_mut-in-More.ensures.value c.count_up_to-inside.ensures (omega arith) c.if-at-inside.false (c.in-Ok-send-2.ensures.received c.in-More.edge.demand.asked c.in-More.edge.demand.sent) (search rules)

pub returns-in-Err-send-clause-err : goal.returns-in-Err-send-clause-err
returns-in-Err-send-clause-err g t c = λ asked sent.
    rw (place_beside c.args.receiver.now c.args.input asked sent c.args.self.now c.in-More.edge c.in-More.machine c.in-More.below c.in-More.beside c.deref.result.now c.deref_mut.result.now c.args.at c.count_up_to-inside.result
    c.in-More.is c.deref.ensures c.deref_mut.ensures.value c.count_up_to-inside.ensures c.if-at-inside.true) (c.in-Err-send.ensures.err asked sent)

pub returns-in-Err-send-2-clause-err : goal.returns-in-Err-send-2-clause-err
returns-in-Err-send-2-clause-err g t c = λ asked sent.
    rw (place_below c.args.receiver.now c.args.input asked sent c.args.self.now c.in-More.edge c.in-More.machine c.in-More.below c.in-More.beside c.deref.result.now c.deref_mut-in-More.result.now c.args.at c.count_up_to-inside.result
    c.in-More.is c.deref.ensures c.deref_mut-in-More.ensures.value c.count_up_to-inside.ensures (omega arith) c.if-at-inside.false) (c.in-Err-send-2.ensures.err c.in-More.edge.demand.asked c.in-More.edge.demand.sent)

pub returns-in-Ok-send-2-clause-made : goal.returns-in-Ok-send-2-clause-made
returns-in-Ok-send-2-clause-made g t c = λ asked sent.
    changed_below (IsSentOver g.M.Machine (g.O.Ops.meaning c.args.ops.now)) g.M.Machine.ended c.args.receiver.now c.args.input asked sent c.args.self.now c.in-More.edge c.in-More.machine c.send-in-More.new.receiver c.in-More.below c.in-More.beside c.deref.result.now c.deref_mut-in-More.result.now c.send-in-More.new.self c.close_if.new.self c.args.at c.count_up_to-inside.result
    c.in-More.is c.deref.ensures c.deref_mut-in-More.ensures.value c.count_up_to-inside.ensures (omega arith) c.if-at-inside.false (c.in-Ok-send-2.ensures.made c.in-More.edge.demand.asked c.in-More.edge.demand.sent) (search rules)

pub send-requires-after_bounds : goal.send-requires-after_bounds
send-requires-after_bounds g t c = search rules

pub returns-in-Ok-send-clause-own : goal.returns-in-Ok-send-clause-own
returns-in-Ok-send-clause-own g t c = search rules

pub returns-in-Err-send-clause-memory : goal.returns-in-Err-send-clause-memory
returns-in-Err-send-clause-memory g t c = search rules
