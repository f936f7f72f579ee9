use Rattle.rsx_region.specs.Pieces.{none_taken}
use Rattle.rsx_live_parts.specs.Lives.{most_numbers}
use Rattle.rsx_live_parts.proofs.Closings.{back_ready, live_ahead, live_not}
use Rattle.rsx_live_parts.proofs.Counts.{on_err}
use Rattle.rsx_region.specs.Trees.{Stage}
use Rattle.rsx_live_parts.proofs.lives.LiveSubscriptions.close.Goals as goal

pub join_trees-requires : goal.join_trees-requires
join_trees-requires g c =
    let l = c.requires.live in
    let whole : Stage _ _ = record { pieces = l.is.pieces; links = l.is.links } in
    let s = c.close-trees.ensures.since most_numbers whole l.is.is in
    record { meaning = g.O.Ops.meaning c.args.self.live.ops; first = none_taken most_numbers; hubs = none_taken most_numbers; whole = whole; opening = s.0; since = s.1 }

pub come_back_all-requires-clause-can : goal.come_back_all-requires-clause-can
come_back_all-requires-clause-can g c =
    let l = c.requires.live in
    let m = g.O.Ops.meaning c.args.self.live.ops in
    let whole : Stage _ _ = record { pieces = l.is.pieces; links = l.is.links } in
    let s = c.close-trees.ensures.since most_numbers whole l.is.is in
    record { meaning = m; count = most_numbers; number = 0; subs = l.subs; are = back_ready g.N.Machine m g.N.CrossingNodes l.subs c.args.self.kept.items l.is.pieces l.is.links l.is.taps c.join_trees.new.trees c.args.self.live.links.items c.args.taps.items l.is.out (c.in_ok-join_trees.ensures.whole m (none_taken most_numbers) (none_taken most_numbers) whole s.0 s.1) (live_ahead g.N.Machine g.N.CrossingNodes g.O.Ops.meaning whole c.args.self.live c.args.self.plan l.is.is) c.requires.taps }

pub returns-clause-back : goal.returns-clause-back
returns-clause-back g c = record {
  flags = c.come_back_all.ensures.flags;
  stopped = c.come_back_all.ensures.stopped;
  stands = λ subs is published pasts st.
      let m = g.O.Ops.meaning c.args.self.live.ops in
      let whole : Stage _ _ = record { pieces = is.pieces; links = is.links } in
      let s = c.close-trees.ensures.since most_numbers whole is.is in
      c.come_back_all.ensures.stands m most_numbers 0 subs (back_ready g.N.Machine m g.N.CrossingNodes subs c.args.self.kept.items is.pieces is.links is.taps c.join_trees.new.trees c.args.self.live.links.items c.args.taps.items is.out (c.in_ok-join_trees.ensures.whole m (none_taken most_numbers) (none_taken most_numbers) whole s.0 s.1) (live_ahead g.N.Machine g.N.CrossingNodes g.O.Ops.meaning whole c.args.self.live c.args.self.plan is.is) c.requires.taps) published pasts st;
}

pub returns-in_err-join_trees-clause-err : goal.returns-in_err-join_trees-clause-err
returns-in_err-join_trees-clause-err g c = on_err c.from_residual.result _ (λ subs is.
    let m = g.O.Ops.meaning c.args.self.live.ops in
    let whole : Stage _ _ = record { pieces = is.pieces; links = is.links } in
    let s = c.close-trees.ensures.since most_numbers whole is.is in
    live_not g.N.Machine g.N.CrossingNodes g.O.Ops.meaning subs c.args.self is c.join_trees.new.trees (c.join_trees.ensures.since m (none_taken most_numbers) (none_taken most_numbers) whole s.0 s.1) c.in_err-join_trees.ensures.refused)
