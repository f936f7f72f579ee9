use Rattle.std.proofs.Common.{◌+◌, ◌≤◌, ◌∙◌, [], arith, length, refl, sym}
use Rattle.rsx_graph_state.specs.Moves.{rows_of}
use Rattle.rsx_graph_moves.proofs.Driving.{all_hubs_quiet, hubs_quiet_on, none_made, so_far_none, so_far_taken, spent_all, still_quiet}
use Rattle.rsx_graph_moves.proofs.hubs.serve_all.Goals as goal

pub loop-at-init : goal.loop-at-init
loop-at-init g c = record {
  hubs = refl;
  feeds = refl;
  subscriptions = refl;
  so_far = (0, omega arith, so_far_none g.N.Machine g.N.Nodes (g.O.Ops.meaning c.args.ops.now) (rows_of c.args.hubs.now.items c.args.feeds.now.items c.args.subscriptions.now.items) []);
  none = λ _ i l. absurd (omega (arith, l));
  still = λ _. refl;
  idle = c.requires.idle;
  empty = c.requires.empty;
}

pub loop-at-preserved : goal.loop-at-preserved
loop-at-preserved g c =
    let m = g.O.Ops.meaning c.args.ops.now in
    let first = rows_of c.args.hubs.now.items c.args.feeds.now.items c.args.subscriptions.now.items in
    let before = rows_of c.loop-at.hubs.items c.loop-at.feeds.items c.loop-at.subscriptions.items in
    let after = rows_of c.serve.new.hubs.items c.serve.new.feeds.items c.serve.new.subscriptions.items in
    let s = c.loop-at.invariant.so_far in
    let n = s.1 in
    let p = rw c.in-Ok-Idle.field-0-is at c.in-Ok-Idle.ensures.served in
    let k = p.1.0 in
    let less = c.loop-at-test.true in
    let many = c.len-count.ensures in
    record {
      hubs = c.serve.ensures.hubs ∙ c.loop-at.invariant.hubs;
      feeds = c.serve.ensures.feeds ∙ c.loop-at.invariant.feeds;
      subscriptions = c.serve.ensures.subscriptions ∙ c.loop-at.invariant.subscriptions;
      so_far = (s.0 + length p.0, omega (arith, n, k), so_far_taken g.N.Machine g.N.Nodes m first before after [] [] s.0 p.0 s.2 p.2 p.3);
      none = λ e. hubs_quiet_on g.N.Machine m before after c.loop-at.at (none_made g.N.Machine g.N.Nodes m before after p.0 (omega (arith, n, k, e)) p.2) (c.loop-at.invariant.none (omega (arith, n, k, e))) p.1.1;
      still = λ q. (c.serve.ensures.none (still_quiet g.N.Machine m first before c.loop-at.at (length c.args.hubs.now.items) (omega (arith, less, many)) (c.loop-at.invariant.still q) q)).0 ∙ c.loop-at.invariant.still q;
      idle = c.serve.ensures.idle;
      empty = c.serve.ensures.empty;
    }

pub returns-in-Ok-Budget-clause-served : goal.returns-in-Ok-Budget-clause-served
returns-in-Ok-Budget-clause-served g c =
    let m = g.O.Ops.meaning c.args.ops.now in
    let first = rows_of c.args.hubs.now.items c.args.feeds.now.items c.args.subscriptions.now.items in
    let before = rows_of c.loop-at.hubs.items c.loop-at.feeds.items c.loop-at.subscriptions.items in
    let after = rows_of c.serve.new.hubs.items c.serve.new.feeds.items c.serve.new.subscriptions.items in
    let s = c.loop-at.invariant.so_far in
    let p = rw c.in-Ok-Budget.field-0-is at c.in-Ok-Budget.ensures.served in
    let all = so_far_taken g.N.Machine g.N.Nodes m first before after [] [] s.0 p.0 s.2 p.2 p.3 in
    (all.moves, (spent_all s.0 c.loop-at.left c.args.budget (length p.0) (length all.moves) s.1 p.1.0 all.count, p.1.1), all.made, sym all.output)

pub returns-in-Err-clause-served : goal.returns-in-Err-clause-served
returns-in-Err-clause-served g c =
    let m = g.O.Ops.meaning c.args.ops.now in
    let first = rows_of c.args.hubs.now.items c.args.feeds.now.items c.args.subscriptions.now.items in
    let before = rows_of c.loop-at.hubs.items c.loop-at.feeds.items c.loop-at.subscriptions.items in
    let after = rows_of c.serve.new.hubs.items c.serve.new.feeds.items c.serve.new.subscriptions.items in
    let s = c.loop-at.invariant.so_far in
    let n = s.1 in
    let p = c.in-Err.ensures.served in
    let k = p.1.0 in
    let all = so_far_taken g.N.Machine g.N.Nodes m first before after [] [] s.0 p.0 s.2 p.2 p.3 in
    let count = all.count in
    (all.moves, (omega (arith, n, k, count), p.1.1), all.made, sym all.output)

pub returns-clause-served : goal.returns-clause-served
returns-clause-served g c =
    let m = g.O.Ops.meaning c.args.ops.now in
    let now = rows_of c.loop-at.hubs.items c.loop-at.feeds.items c.loop-at.subscriptions.items in
    let s = c.loop-at.invariant.so_far in
    let n = s.1 in
    let count = s.2.count in
    let all : length c.loop-at.hubs.items ≤ c.loop-at.at = let l = c.len-count.ensures in let k = c.loop-at.invariant.hubs in let t = c.loop-at-test.false in omega (arith, l, k, t) in
    (s.2.moves, (omega (arith, n, count), λ e. all_hubs_quiet g.N.Machine m now c.loop-at.at all (c.loop-at.invariant.none e)), s.2.made, sym s.2.output)

pub returns-in-Ok-Budget-clause-none : goal.returns-in-Ok-Budget-clause-none
returns-in-Ok-Budget-clause-none g c = λ q.
    let m = g.O.Ops.meaning c.args.ops.now in
    let first = rows_of c.args.hubs.now.items c.args.feeds.now.items c.args.subscriptions.now.items in
    let before = rows_of c.loop-at.hubs.items c.loop-at.feeds.items c.loop-at.subscriptions.items in
    let less = c.loop-at-test.true in
    let many = c.len-count.ensures in
    let e = c.serve.ensures.none (still_quiet g.N.Machine m first before c.loop-at.at (length c.args.hubs.now.items) (omega (arith, less, many)) (c.loop-at.invariant.still q) q) in
    (e.0 ∙ c.loop-at.invariant.still q, refl)

pub returns-in-Err-clause-none : goal.returns-in-Err-clause-none
returns-in-Err-clause-none g c = λ q.
    let m = g.O.Ops.meaning c.args.ops.now in
    let first = rows_of c.args.hubs.now.items c.args.feeds.now.items c.args.subscriptions.now.items in
    let before = rows_of c.loop-at.hubs.items c.loop-at.feeds.items c.loop-at.subscriptions.items in
    let less = c.loop-at-test.true in
    let many = c.len-count.ensures in
    let e = c.in-Err.ensures.none (still_quiet g.N.Machine m first before c.loop-at.at (length c.args.hubs.now.items) (omega (arith, less, many)) (c.loop-at.invariant.still q) q) in
    (e.0 ∙ c.loop-at.invariant.still q, e.1)

pub returns-clause-none : goal.returns-clause-none
returns-clause-none g c = λ q. (c.loop-at.invariant.still q, refl)

pub returns-in-Ok-Budget-clause-hubs : goal.returns-in-Ok-Budget-clause-hubs
returns-in-Ok-Budget-clause-hubs g c = c.serve.ensures.hubs ∙ c.loop-at.invariant.hubs

pub returns-in-Ok-Budget-clause-feeds : goal.returns-in-Ok-Budget-clause-feeds
returns-in-Ok-Budget-clause-feeds g c = c.serve.ensures.feeds ∙ c.loop-at.invariant.feeds

pub returns-in-Ok-Budget-clause-subscriptions : goal.returns-in-Ok-Budget-clause-subscriptions
returns-in-Ok-Budget-clause-subscriptions g c = c.serve.ensures.subscriptions ∙ c.loop-at.invariant.subscriptions

pub returns-in-Err-clause-hubs : goal.returns-in-Err-clause-hubs
returns-in-Err-clause-hubs g c = c.serve.ensures.hubs ∙ c.loop-at.invariant.hubs

pub returns-in-Err-clause-feeds : goal.returns-in-Err-clause-feeds
returns-in-Err-clause-feeds g c = c.serve.ensures.feeds ∙ c.loop-at.invariant.feeds

pub returns-in-Err-clause-subscriptions : goal.returns-in-Err-clause-subscriptions
returns-in-Err-clause-subscriptions g c = c.serve.ensures.subscriptions ∙ c.loop-at.invariant.subscriptions
