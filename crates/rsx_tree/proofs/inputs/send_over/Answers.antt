use Rattle.std.proofs.Common.{◌≡◌, true, refl, rules}
use Rattle.rsx_sources.specs.Prelude.{front_of}
use Rattle.rsx_tree.specs.Edges.{edge_view, passed}
use Rattle.rsx_tree.specs.Inputs.{can_send_over}
use Rattle.rsx_tree.proofs.Popped.{given_out}
use Rattle.rsx_tree.proofs.inputs.send_over.Goals as goal

pub returns-in-Ok-clause-made : goal.returns-in-Ok-clause-made
returns-in-Ok-clause-made g c = λ asked sent.
    let b = g.M.Machine in
    let m = g.O.Ops.meaning c.args.ops.now in
    let s = c.in-Ok-Some.signal in
    let both = given_out b m c.args.sender.now c.pop_front.new.self (b.popping c.args.sender.now) c.in-Ok-Some.field-0 s refl c.in-Ok-Some.field-0-is c.in-Ok-Some.ensures.ok c.pop_front.ensures.recorded c.in-Ok-Some.ensures.counts in
    let out = both.0 in
    let can : can_send_over b m c.args.receiver.now c.args.input (edge_view c.args.edge.now) c.args.sender.now ≡ true = search rules in
    let edge : edge_view c.carry.new.self ≡ passed (edge_view c.args.edge.now) (front_of s) = search rules in
    record {
      signal = s;
      can = can;
      offered = out.waited;
      popped = out.popped;
      note = out.note;
      noting = out.noting;
      ready = out.ready;
      noted = out.noted;
      gone = out.gone;
      taken = c.in-Ok.ensures.ok;
      edge = edge;
      receiver = c.on_signal.ensures.recorded;
      sender = out.recorded;
      counts_in = c.in-Ok.ensures.counts;
      counts_out = both.1;
      alike_in = c.on_signal.ensures.alike;
      alike_out = c.pop_front.ensures.alike;
    }

pub returns-in-Ok-clause-received : goal.returns-in-Ok-clause-received
returns-in-Ok-clause-received g c =
    let b = g.M.Machine in
    let m = g.O.Ops.meaning c.args.ops.now in
    let s = c.in-Ok-Some.signal in
    let both = given_out b m c.args.sender.now c.pop_front.new.self (b.popping c.args.sender.now) c.in-Ok-Some.field-0 s refl c.in-Ok-Some.field-0-is c.in-Ok-Some.ensures.ok c.pop_front.ensures.recorded c.in-Ok-Some.ensures.counts in
    record { signal = s; offered = both.0.waited; took = c.in-Ok.ensures.made }

pub returns-in-Err-clause-err : goal.returns-in-Err-clause-err
returns-in-Err-clause-err g c = search rules
