use Rattle.std.proofs.Common.{Ok, ◌+◌, ◌≤◌, ◌∙◌, ap, arith, length, refl}
use Rattle.rsx_graph_state.proofs.Graphs.{pumped_none, pumped_on, quiet_up_to}
use Rattle.rsx_graph_moves.proofs.Rest.{known_on, quiet_between}
use Rattle.rsx_graph_moves.proofs.subscriptions.drive.Goals as goal

pub turns-init : goal.turns-init
turns-init g c = record {
  count = refl;
  pumped = (0, omega arith, pumped_none g.N.Machine g.N.Nodes (g.O.Ops.meaning c.args.ops.now) c.args.subscriptions.now.items c.args.out.now.signals);
  quiet = quiet_between g.N.Machine (g.O.Ops.meaning c.args.ops.now) c.args.idle.now c.args.subscriptions.now.items 0 c.next_outside-at.result c.requires.idle (λ i l s e. absurd (omega (arith, l))) c.next_outside-at.ensures.first;
  idle = c.requires.idle;
  outside = c.next_outside-at.ensures.outside;
  known = λ i lt small. c.next_outside-at.ensures.first i (omega arith) lt;
}

pub returns-in-Ok-Budget-clause-driven : goal.returns-in-Ok-Budget-clause-driven
returns-in-Ok-Budget-clause-driven g c =
    let i = c.turns.invariant in
    let m = g.O.Ops.meaning c.args.ops.now in
    let p = rw c.in-Ok-Budget.field-0-is at c.in-Ok-Budget.ensures.driven in
    let before = i.pumped.1 in
    let more = p.1.0 in
    (i.pumped.0 + p.0, (omega (arith, before, more), p.1.1), pumped_on g.N.Machine g.N.Nodes m i.pumped.0 p.0 c.args.subscriptions.now.items c.turns.subscriptions.items c.drive_one.new.subscriptions.items c.args.out.now.signals c.turns.out.signals c.drive_one.new.out.signals i.pumped.2 p.2)

pub returns-in-Err-clause-driven : goal.returns-in-Err-clause-driven
returns-in-Err-clause-driven g c =
    let i = c.turns.invariant in
    let m = g.O.Ops.meaning c.args.ops.now in
    let p = c.in-Err.ensures.driven in
    let before = i.pumped.1 in
    let more = p.1.0 in
    (i.pumped.0 + p.0, (omega (arith, before, more), p.1.1), pumped_on g.N.Machine g.N.Nodes m i.pumped.0 p.0 c.args.subscriptions.now.items c.turns.subscriptions.items c.drive_one.new.subscriptions.items c.args.out.now.signals c.turns.out.signals c.drive_one.new.out.signals i.pumped.2 p.2)

pub turns-preserved : goal.turns-preserved
turns-preserved g c =
    let i = c.turns.invariant in
    let m = g.O.Ops.meaning c.args.ops.now in
    let p = rw c.in-Ok-Idle.field-0-is at c.in-Ok-Idle.ensures.driven in
    let before = i.pumped.1 in
    let more = p.1.0 in
    record {
      count = c.drive_one.ensures.count ∙ i.count;
      pumped = (i.pumped.0 + p.0, omega (arith, before, more), pumped_on g.N.Machine g.N.Nodes m i.pumped.0 p.0 c.args.subscriptions.now.items c.turns.subscriptions.items c.drive_one.new.subscriptions.items c.args.out.now.signals c.turns.out.signals c.drive_one.new.out.signals i.pumped.2 p.2);
      quiet = quiet_between g.N.Machine m c.drive_one.new.idle c.drive_one.new.subscriptions.items (c.turns.at + 1) c.next_outside-at-in-turns.result c.drive_one.ensures.idle (p.1.1 i.quiet) c.next_outside-at-in-turns.ensures.first;
      idle = c.drive_one.ensures.idle;
      outside = c.next_outside-at-in-turns.ensures.outside;
      known = known_on c.turns.idle c.drive_one.new.idle c.turns.at c.next_outside-at-in-turns.result i.known c.drive_one.ensures.kept (c.in-Ok-Idle.ensures.known c.in-Ok-Idle.left (ap Ok c.in-Ok-Idle.field-0-is)) c.next_outside-at-in-turns.ensures.first;
    }

pub returns-clause-driven : goal.returns-clause-driven
returns-clause-driven g c =
    let i = c.turns.invariant in
    let m = g.O.Ops.meaning c.args.ops.now in
    let spent = i.pumped.1 in
    let all : length c.turns.subscriptions.items ≤ c.turns.at = let l = c.len-count.ensures in let n = i.count in let t = c.turns-test.false in omega (arith, l, n, t) in
    (i.pumped.0, (omega (arith, spent), quiet_up_to g.N.Machine m c.turns.subscriptions.items c.turns.at all i.quiet), i.pumped.2)

pub returns-in-Err-clause-memory : goal.returns-in-Err-clause-memory
returns-in-Err-clause-memory g c = λ free. c.in-Err.ensures.memory (c.turns.invariant.pumped.2.alike (g.O.Ops.allocates c.args.ops.now) ∙ free)

pub returns-clause-known : goal.returns-clause-known
returns-clause-known g c = λ left e i lt small.
    let l = c.len-count.ensures in
    let n = c.turns.invariant.count in
    let t = c.turns-test.false in
    c.turns.invariant.known i (omega (arith, l, n, t, lt)) small

pub returns-in-Ok-Budget-clause-known : goal.returns-in-Ok-Budget-clause-known
returns-in-Ok-Budget-clause-known g c = λ left e. cc

pub returns-in-Err-clause-known : goal.returns-in-Err-clause-known
returns-in-Err-clause-known g c = λ left e. cc
