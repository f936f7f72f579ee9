use Rattle.std.proofs.Common.{◌∙◌, ◌++◌, [], ◌∷◌, Option, ap, arith, refl, sym}
use Rattle.std.specs.Option.{option_to_list}
use Rattle.rsx_sources.specs.Prelude.{SubId, Signal}
use Rattle.rsx_graph_state.specs.Moves.{rows_of}
use Rattle.rsx_graph_moves.proofs.Driving.{could_first, made_still, rows_same, so_far_taken, untouched}
use Rattle.rsx_graph_moves.proofs.Keeping.{lead_keep, place_kept}
use Rattle.rsx_graph_moves.proofs.Readers.{moved_idle, moved_unread, quiet_still, same_idle}
use Rattle.rsx_graph_moves.proofs.TakenIn.{many_taken_in}
use Rattle.rsx_graph_moves.proofs.hubs.take_in_all.Goals as goal

pub loop-made-init : goal.loop-made-init
loop-made-init g c =
    let m = g.O.Ops.meaning c.args.ops.now in
    let first = rows_of c.args.hubs.now.items c.args.feeds.now.items c.args.subscriptions.now.items in
    let now = rows_of c.take_in_many-taken.new.hubs.items c.take_in_many-taken.new.feeds.items c.take_in_many-taken.new.subscriptions.items in
    let k = many_taken_in g.N.Machine g.N.Nodes m c.args.hub.0 c.args.skipped.now first now c.take_in_many-taken.result c.requires.unread c.take_in_many-taken.ensures.made in
    record {
      hubs = c.take_in_many-taken.ensures.hubs;
      feeds = c.take_in_many-taken.ensures.feeds;
      subscriptions = c.take_in_many-taken.ensures.subscriptions;
      so_far = k.so_far;
      first = c.take_in_many-taken.ensures.awake;
      place = k.place ∙ c.requires.place;
      unread = k.unread;
      stay = k.stay;
      empty = c.take_in_many-taken.ensures.empty;
    }

pub loop-made-preserved : goal.loop-made-preserved
loop-made-preserved g c =
    let m = g.O.Ops.meaning c.args.ops.now in
    let first = rows_of c.args.hubs.now.items c.args.feeds.now.items c.args.subscriptions.now.items in
    let before = rows_of c.loop-made.hubs.items c.loop-made.feeds.items c.loop-made.subscriptions.items in
    let after = rows_of c.take_in_one.new.hubs.items c.take_in_one.new.feeds.items c.take_in_one.new.subscriptions.items in
    let i = c.loop-made.invariant in
    let k = c.in-Ok.ensures.made in
    let F : Option (SubId × Signal g.row.O-Item.Denot) → _ = λ x. option_to_list x ++ [] in
    record {
      hubs = c.take_in_one.ensures.hubs ∙ i.hubs;
      feeds = c.take_in_one.ensures.feeds ∙ i.feeds;
      subscriptions = c.take_in_one.ensures.subscriptions ∙ i.subscriptions;
      so_far = so_far_taken g.N.Machine g.N.Nodes m first before after [] [] c.loop-made.made _ i.so_far k.all (ap F k.silent);
      first = λ _ q. could_first g.N.Machine g.N.Nodes m first before [] [] c.loop-made.made c.args.hub.0 i.so_far i.first k.awake q;
      place = place_kept before after c.args.hub.0 (lead_keep g.N.Machine g.N.Nodes m before (k.made ∷ []) after k.all.lead) ∙ i.place;
      unread = moved_unread g.N.Machine c.args.hub.0 c.args.skipped.now before.subs after.subs k.subs i.unread;
      stay = λ set among quiet. moved_idle g.N.Machine m c.args.hub.0 c.args.skipped.now set before.subs after.subs k.subs i.unread among (i.stay set among quiet);
      empty = c.take_in_one.ensures.empty;
    }

pub returns-in-Err-NotEnabled-clause-served : goal.returns-in-Err-NotEnabled-clause-served
returns-in-Err-NotEnabled-clause-served g c =
    let m = g.O.Ops.meaning c.args.ops.now in
    let first = rows_of c.args.hubs.now.items c.args.feeds.now.items c.args.subscriptions.now.items in
    let before = rows_of c.loop-made.hubs.items c.loop-made.feeds.items c.loop-made.subscriptions.items in
    let after = rows_of c.take_in_one.new.hubs.items c.take_in_one.new.feeds.items c.take_in_one.new.subscriptions.items in
    let s = c.loop-made.invariant.so_far in
    let n = s.count in
    let l = c.loop-made-test.true in
    let e = c.in-Err-NotEnabled.ensures.same in
    let still = rows_same before after e.0 e.1 e.2 in
    let quiet = rw c.in-Err-NotEnabled.field-0-is at c.in-Err-NotEnabled.ensures.err in
    (s.moves, (omega (arith, n, l), quiet_still g.N.Machine m c.args.hub.0 before after still quiet), made_still g.N.Machine g.N.Nodes m first before after s.moves still s.made, sym s.output)

pub returns-in-Err-NoMemory-clause-served : goal.returns-in-Err-NoMemory-clause-served
returns-in-Err-NoMemory-clause-served g c =
    let m = g.O.Ops.meaning c.args.ops.now in
    let first = rows_of c.args.hubs.now.items c.args.feeds.now.items c.args.subscriptions.now.items in
    let before = rows_of c.loop-made.hubs.items c.loop-made.feeds.items c.loop-made.subscriptions.items in
    let after = rows_of c.take_in_one.new.hubs.items c.take_in_one.new.feeds.items c.take_in_one.new.subscriptions.items in
    let s = c.loop-made.invariant.so_far in
    let n = s.count in
    let l = c.loop-made-test.true in
    let e = c.in-Err-NoMemory.ensures.same in
    (s.moves, (omega (arith, n, l), refl), made_still g.N.Machine g.N.Nodes m first before after s.moves (rows_same before after e.0 e.1 e.2) s.made, sym s.output)

pub returns-in-true-clause-served : goal.returns-in-true-clause-served
returns-in-true-clause-served g c =
    let s = c.loop-made.invariant.so_far in
    let n = s.count in
    let l = c.loop-made-test.false in
    let e = c.loop-made.auto.made-end c.take_in_many-taken.ensures.most in
    (s.moves, (omega (arith, n, l, e), c.is_awake.ensures.yes (g.O.Ops.meaning c.args.ops.now) c.in-true.is), s.made, sym s.output)

pub returns-in-false-clause-served : goal.returns-in-false-clause-served
returns-in-false-clause-served g c =
    let s = c.loop-made.invariant.so_far in
    let n = s.count in
    let l = c.loop-made-test.false in
    let e = c.loop-made.auto.made-end c.take_in_many-taken.ensures.most in
    (s.moves, (omega (arith, n, l, e), c.is_awake.ensures.no (g.O.Ops.meaning c.args.ops.now) c.in-false.is), s.made, sym s.output)

pub returns-in-Err-NotEnabled-clause-none : goal.returns-in-Err-NotEnabled-clause-none
returns-in-Err-NotEnabled-clause-none g c = λ q.
    let m = g.O.Ops.meaning c.args.ops.now in
    let first = rows_of c.args.hubs.now.items c.args.feeds.now.items c.args.subscriptions.now.items in
    let before = rows_of c.loop-made.hubs.items c.loop-made.feeds.items c.loop-made.subscriptions.items in
    let after = rows_of c.take_in_one.new.hubs.items c.take_in_one.new.feeds.items c.take_in_one.new.subscriptions.items in
    let e = c.in-Err-NotEnabled.ensures.same in
    (rows_same before after e.0 e.1 e.2 ∙ untouched g.N.Machine g.N.Nodes m first before [] [] c.loop-made.made c.args.hub.0 c.loop-made.invariant.so_far c.loop-made.invariant.first q, refl)

pub returns-in-Err-NoMemory-clause-none : goal.returns-in-Err-NoMemory-clause-none
returns-in-Err-NoMemory-clause-none g c = λ q.
    let m = g.O.Ops.meaning c.args.ops.now in
    let first = rows_of c.args.hubs.now.items c.args.feeds.now.items c.args.subscriptions.now.items in
    let before = rows_of c.loop-made.hubs.items c.loop-made.feeds.items c.loop-made.subscriptions.items in
    let awake = rw c.in-Err-NoMemory.field-0-is at c.in-Err-NoMemory.ensures.err in
    absurd (could_first g.N.Machine g.N.Nodes m first before [] [] c.loop-made.made c.args.hub.0 c.loop-made.invariant.so_far c.loop-made.invariant.first awake q)

pub returns-in-true-clause-none : goal.returns-in-true-clause-none
returns-in-true-clause-none g c = λ q.
    let m = g.O.Ops.meaning c.args.ops.now in
    let first = rows_of c.args.hubs.now.items c.args.feeds.now.items c.args.subscriptions.now.items in
    let before = rows_of c.loop-made.hubs.items c.loop-made.feeds.items c.loop-made.subscriptions.items in
    (untouched g.N.Machine g.N.Nodes m first before [] [] c.loop-made.made c.args.hub.0 c.loop-made.invariant.so_far c.loop-made.invariant.first q, refl)

pub returns-in-false-clause-none : goal.returns-in-false-clause-none
returns-in-false-clause-none g c = λ q.
    let m = g.O.Ops.meaning c.args.ops.now in
    let first = rows_of c.args.hubs.now.items c.args.feeds.now.items c.args.subscriptions.now.items in
    let before = rows_of c.loop-made.hubs.items c.loop-made.feeds.items c.loop-made.subscriptions.items in
    (untouched g.N.Machine g.N.Nodes m first before [] [] c.loop-made.made c.args.hub.0 c.loop-made.invariant.so_far c.loop-made.invariant.first q, refl)

pub returns-in-Err-NotEnabled-clause-idle : goal.returns-in-Err-NotEnabled-clause-idle
returns-in-Err-NotEnabled-clause-idle g c = λ set among quiet.
    same_idle g.N.Machine (g.O.Ops.meaning c.args.ops.now) set c.loop-made.subscriptions.items c.take_in_one.new.subscriptions.items c.in-Err-NotEnabled.ensures.same.2 (c.loop-made.invariant.stay set among quiet)

pub returns-in-Err-NoMemory-clause-idle : goal.returns-in-Err-NoMemory-clause-idle
returns-in-Err-NoMemory-clause-idle g c = λ set among quiet.
    same_idle g.N.Machine (g.O.Ops.meaning c.args.ops.now) set c.loop-made.subscriptions.items c.take_in_one.new.subscriptions.items c.in-Err-NoMemory.ensures.same.2 (c.loop-made.invariant.stay set among quiet)

pub returns-in-true-clause-idle : goal.returns-in-true-clause-idle
returns-in-true-clause-idle g c = c.loop-made.invariant.stay

pub returns-in-false-clause-idle : goal.returns-in-false-clause-idle
returns-in-false-clause-idle g c = c.loop-made.invariant.stay
