use Rattle.std.proofs.Common.{◌∙◌, ap, arith, length, refl}
use Rattle.rsx_graph_state.specs.Prelude.{rows_of, signals_wait, pump_allocates}
use Rattle.rsx_tree.proofs.Alike.{or_left, or_right}
use Rattle.rsx_graph_moves.proofs.Driving.{nothing_waits, so_far_none}
use Rattle.rsx_graph_moves.proofs.Turns.{drives, drives_on, drives_refused, is_idle, less_left, serves, serves_on, serves_refused}
use Rattle.rsx_graph_moves.proofs.rounds.pump.Goals as goal

pub rounds-init : goal.rounds-init
rounds-init g c = record {
  hubs = refl;
  feeds = refl;
  subscriptions = refl;
  so_far = (0, omega arith, so_far_none g.N.Machine g.N.Nodes (g.O.Ops.meaning c.args.ops.now) (rows_of c.args.hubs.now.items c.args.feeds.now.items c.args.subscriptions.now.items) c.args.out.now.signals);
  free = λ f unfed. let a = pump_allocates g.N.Machine (g.O.Ops.allocates c.args.ops.now) c.args.subscriptions.now.items in let w = signals_wait c.args.hubs.now.items in (or_left a w f, or_right a w f, unfed);
  idle = c.requires.idle;
  empty = c.new-signals.ensures.items;
}

pub returns-in-Ok-Budget-clause-pumped : goal.returns-in-Ok-Budget-clause-pumped
returns-in-Ok-Budget-clause-pumped g c =
    let m = g.O.Ops.meaning c.args.ops.now in
    let first = rows_of c.args.hubs.now.items c.args.feeds.now.items c.args.subscriptions.now.items in
    let before = rows_of c.rounds.hubs.items c.rounds.feeds.items c.rounds.subscriptions.items in
    drives_on g.N.Machine g.N.Nodes m c.args.budget c.rounds.left first c.args.out.now before c.rounds.out c.drive.new.out c.drive.new.subscriptions.items c.rounds.invariant.so_far (rw c.in-Ok-Budget.field-0-is at c.in-Ok-Budget.ensures.driven)

pub returns-in-Err-clause-pumped : goal.returns-in-Err-clause-pumped
returns-in-Err-clause-pumped g c =
    let m = g.O.Ops.meaning c.args.ops.now in
    let first = rows_of c.args.hubs.now.items c.args.feeds.now.items c.args.subscriptions.now.items in
    let before = rows_of c.rounds.hubs.items c.rounds.feeds.items c.rounds.subscriptions.items in
    drives_refused g.N.Machine g.N.Nodes m c.args.budget c.rounds.left first c.args.out.now before c.rounds.out c.drive.new.out c.drive.new.subscriptions.items c.in-Err.why c.rounds.invariant.so_far c.in-Err.ensures.driven

pub returns-in-Ok-Budget-serve_all-clause-pumped : goal.returns-in-Ok-Budget-serve_all-clause-pumped
returns-in-Ok-Budget-serve_all-clause-pumped g c =
    let m = g.O.Ops.meaning c.args.ops.now in
    let first = rows_of c.args.hubs.now.items c.args.feeds.now.items c.args.subscriptions.now.items in
    let before = rows_of c.rounds.hubs.items c.rounds.feeds.items c.rounds.subscriptions.items in
    let mid = rows_of c.rounds.hubs.items c.rounds.feeds.items c.drive.new.subscriptions.items in
    let after = rows_of c.serve_all.new.hubs.items c.serve_all.new.feeds.items c.serve_all.new.subscriptions.items in
    let d = drives g.N.Machine g.N.Nodes m c.args.budget c.rounds.left c.in-Ok-Idle.rested first c.args.out.now before c.rounds.out c.drive.new.out c.drive.new.subscriptions.items c.rounds.invariant.so_far (rw c.in-Ok-Idle.field-0-is at c.in-Ok-Idle.ensures.driven) in
    serves_on g.N.Machine g.N.Nodes m c.args.budget c.in-Ok-Idle.rested first c.args.out.now mid after c.drive.new.out d (rw c.in-Ok-Budget-serve_all.field-0-is at c.in-Ok-Budget-serve_all.ensures.served)

pub returns-in-Err-serve_all-clause-pumped : goal.returns-in-Err-serve_all-clause-pumped
returns-in-Err-serve_all-clause-pumped g c =
    let m = g.O.Ops.meaning c.args.ops.now in
    let first = rows_of c.args.hubs.now.items c.args.feeds.now.items c.args.subscriptions.now.items in
    let before = rows_of c.rounds.hubs.items c.rounds.feeds.items c.rounds.subscriptions.items in
    let mid = rows_of c.rounds.hubs.items c.rounds.feeds.items c.drive.new.subscriptions.items in
    let after = rows_of c.serve_all.new.hubs.items c.serve_all.new.feeds.items c.serve_all.new.subscriptions.items in
    let d = drives g.N.Machine g.N.Nodes m c.args.budget c.rounds.left c.in-Ok-Idle.rested first c.args.out.now before c.rounds.out c.drive.new.out c.drive.new.subscriptions.items c.rounds.invariant.so_far (rw c.in-Ok-Idle.field-0-is at c.in-Ok-Idle.ensures.driven) in
    serves_refused g.N.Machine g.N.Nodes m c.args.budget c.in-Ok-Idle.rested first c.args.out.now mid after c.drive.new.out c.in-Err-serve_all.why d c.in-Err-serve_all.ensures.served

pub returns-then-left-rested-clause-pumped : goal.returns-then-left-rested-clause-pumped
returns-then-left-rested-clause-pumped g c =
    let m = g.O.Ops.meaning c.args.ops.now in
    let first = rows_of c.args.hubs.now.items c.args.feeds.now.items c.args.subscriptions.now.items in
    let before = rows_of c.rounds.hubs.items c.rounds.feeds.items c.rounds.subscriptions.items in
    let mid = rows_of c.rounds.hubs.items c.rounds.feeds.items c.drive.new.subscriptions.items in
    let after = rows_of c.serve_all.new.hubs.items c.serve_all.new.feeds.items c.serve_all.new.subscriptions.items in
    let d = drives g.N.Machine g.N.Nodes m c.args.budget c.rounds.left c.in-Ok-Idle.rested first c.args.out.now before c.rounds.out c.drive.new.out c.drive.new.subscriptions.items c.rounds.invariant.so_far (rw c.in-Ok-Idle.field-0-is at c.in-Ok-Idle.ensures.driven) in
    is_idle g.N.Machine g.N.Nodes m c.args.budget c.in-Ok-Idle.rested c.in-Ok-Idle-serve_all.behind first c.args.out.now mid after c.drive.new.out d (rw c.in-Ok-Idle-serve_all.field-0-is at c.in-Ok-Idle-serve_all.ensures.served) c.if-left-rested.true

pub rounds-smaller : goal.rounds-smaller
rounds-smaller g c =
    let m = g.O.Ops.meaning c.args.ops.now in
    let mid = rows_of c.rounds.hubs.items c.rounds.feeds.items c.drive.new.subscriptions.items in
    let after = rows_of c.serve_all.new.hubs.items c.serve_all.new.feeds.items c.serve_all.new.subscriptions.items in
    less_left g.N.Machine g.N.Nodes m c.rounds.left c.in-Ok-Idle.rested c.in-Ok-Idle-serve_all.behind c.rounds.subscriptions.items c.drive.new.subscriptions.items c.rounds.out c.drive.new.out mid after (rw c.in-Ok-Idle.field-0-is at c.in-Ok-Idle.ensures.driven) (rw c.in-Ok-Idle-serve_all.field-0-is at c.in-Ok-Idle-serve_all.ensures.served) c.if-left-rested.false

pub rounds-preserved : goal.rounds-preserved
rounds-preserved g c = record {
  hubs = c.serve_all.ensures.hubs ∙ c.rounds.invariant.hubs;
  feeds = c.serve_all.ensures.feeds ∙ c.rounds.invariant.feeds;
  subscriptions = c.serve_all.ensures.subscriptions ∙ (c.drive.ensures.count ∙ c.rounds.invariant.subscriptions);
  so_far =
      let m = g.O.Ops.meaning c.args.ops.now in
      let first = rows_of c.args.hubs.now.items c.args.feeds.now.items c.args.subscriptions.now.items in
      let before = rows_of c.rounds.hubs.items c.rounds.feeds.items c.rounds.subscriptions.items in
      let mid = rows_of c.rounds.hubs.items c.rounds.feeds.items c.drive.new.subscriptions.items in
      let after = rows_of c.serve_all.new.hubs.items c.serve_all.new.feeds.items c.serve_all.new.subscriptions.items in
      let d = drives g.N.Machine g.N.Nodes m c.args.budget c.rounds.left c.in-Ok-Idle.rested first c.args.out.now before c.rounds.out c.drive.new.out c.drive.new.subscriptions.items c.rounds.invariant.so_far (rw c.in-Ok-Idle.field-0-is at c.in-Ok-Idle.ensures.driven) in
      serves g.N.Machine g.N.Nodes m c.args.budget c.in-Ok-Idle.rested c.in-Ok-Idle-serve_all.behind first c.args.out.now mid after c.drive.new.out d (rw c.in-Ok-Idle-serve_all.field-0-is at c.in-Ok-Idle-serve_all.ensures.served);
  free = λ f unfed.
      let m = g.O.Ops.meaning c.args.ops.now in
      let a = g.O.Ops.allocates c.args.ops.now in
      let mid = rows_of c.rounds.hubs.items c.rounds.feeds.items c.drive.new.subscriptions.items in
      let k = c.rounds.invariant.free f unfed in
      let p = rw c.in-Ok-Idle.field-0-is at c.in-Ok-Idle.ensures.driven in
      let still = (c.serve_all.ensures.none (nothing_waits g.N.Machine m mid k.1 k.2 (length c.rounds.hubs.items))).0 in
      (ap (λ r. pump_allocates g.N.Machine a r.subs) still ∙ (p.2.alike a ∙ k.0), ap (λ g. signals_wait g.hubs) still ∙ k.1, ap (λ g. g.feeds) still ∙ k.2);
  idle = c.serve_all.ensures.idle;
  empty = c.serve_all.ensures.empty;
}

pub returns-in-Err-clause-memory : goal.returns-in-Err-clause-memory
returns-in-Err-clause-memory g c = λ f unfed. c.in-Err.ensures.memory (c.rounds.invariant.free f unfed).0

pub returns-in-Err-serve_all-clause-memory : goal.returns-in-Err-serve_all-clause-memory
returns-in-Err-serve_all-clause-memory g c = λ f unfed.
    let m = g.O.Ops.meaning c.args.ops.now in
    let mid = rows_of c.rounds.hubs.items c.rounds.feeds.items c.drive.new.subscriptions.items in
    let k = c.rounds.invariant.free f unfed in
    let none = (c.in-Err-serve_all.ensures.none (nothing_waits g.N.Machine m mid k.1 k.2 (length c.rounds.hubs.items))).1 in
    cc

pub returns-in-Ok-Budget-clause-hubs : goal.returns-in-Ok-Budget-clause-hubs
returns-in-Ok-Budget-clause-hubs g c = c.rounds.invariant.hubs

pub returns-in-Ok-Budget-clause-feeds : goal.returns-in-Ok-Budget-clause-feeds
returns-in-Ok-Budget-clause-feeds g c = c.rounds.invariant.feeds

pub returns-in-Ok-Budget-clause-subscriptions : goal.returns-in-Ok-Budget-clause-subscriptions
returns-in-Ok-Budget-clause-subscriptions g c = c.drive.ensures.count ∙ c.rounds.invariant.subscriptions

pub returns-in-Err-clause-hubs : goal.returns-in-Err-clause-hubs
returns-in-Err-clause-hubs g c = c.rounds.invariant.hubs

pub returns-in-Err-clause-feeds : goal.returns-in-Err-clause-feeds
returns-in-Err-clause-feeds g c = c.rounds.invariant.feeds

pub returns-in-Err-clause-subscriptions : goal.returns-in-Err-clause-subscriptions
returns-in-Err-clause-subscriptions g c = c.drive.ensures.count ∙ c.rounds.invariant.subscriptions

pub returns-in-Ok-Budget-serve_all-clause-hubs : goal.returns-in-Ok-Budget-serve_all-clause-hubs
returns-in-Ok-Budget-serve_all-clause-hubs g c = c.serve_all.ensures.hubs ∙ c.rounds.invariant.hubs

pub returns-in-Ok-Budget-serve_all-clause-feeds : goal.returns-in-Ok-Budget-serve_all-clause-feeds
returns-in-Ok-Budget-serve_all-clause-feeds g c = c.serve_all.ensures.feeds ∙ c.rounds.invariant.feeds

pub returns-in-Ok-Budget-serve_all-clause-subscriptions : goal.returns-in-Ok-Budget-serve_all-clause-subscriptions
returns-in-Ok-Budget-serve_all-clause-subscriptions g c = c.serve_all.ensures.subscriptions ∙ (c.drive.ensures.count ∙ c.rounds.invariant.subscriptions)

pub returns-in-Err-serve_all-clause-hubs : goal.returns-in-Err-serve_all-clause-hubs
returns-in-Err-serve_all-clause-hubs g c = c.serve_all.ensures.hubs ∙ c.rounds.invariant.hubs

pub returns-in-Err-serve_all-clause-feeds : goal.returns-in-Err-serve_all-clause-feeds
returns-in-Err-serve_all-clause-feeds g c = c.serve_all.ensures.feeds ∙ c.rounds.invariant.feeds

pub returns-in-Err-serve_all-clause-subscriptions : goal.returns-in-Err-serve_all-clause-subscriptions
returns-in-Err-serve_all-clause-subscriptions g c = c.serve_all.ensures.subscriptions ∙ (c.drive.ensures.count ∙ c.rounds.invariant.subscriptions)

pub returns-then-left-rested-clause-hubs : goal.returns-then-left-rested-clause-hubs
returns-then-left-rested-clause-hubs g c = c.serve_all.ensures.hubs ∙ c.rounds.invariant.hubs

pub returns-then-left-rested-clause-feeds : goal.returns-then-left-rested-clause-feeds
returns-then-left-rested-clause-feeds g c = c.serve_all.ensures.feeds ∙ c.rounds.invariant.feeds

pub returns-then-left-rested-clause-subscriptions : goal.returns-then-left-rested-clause-subscriptions
returns-then-left-rested-clause-subscriptions g c = c.serve_all.ensures.subscriptions ∙ (c.drive.ensures.count ∙ c.rounds.invariant.subscriptions)
