use Rattle.std.proofs.Common.{length, refl, arith}
use Rattle.rsx_region.proofs.Stages.{last_still, none_counted, none_left, on_err, still_since}
use Rattle.rsx_region.proofs.trees.CutTrees.join_all.Goals as goal

pub returns-in_err-join_last-clause-since : goal.returns-in_err-join_last-clause-since
returns-in_err-join_last-clause-since g c = λ m first hubs whole opening h.
    let r = c.loop.invariant.since m first hubs whole opening h in
    let same = c.in_err-join_last.ensures.same in
    (r.0, still_since g.N.Machine g.N.CrossingNodes m first hubs whole r.0 c.loop.self c.join_last.new.self same.0 same.1 r.1)

pub returns-in_err-join_last-clause-refused : goal.returns-in_err-join_last-clause-refused
returns-in_err-join_last-clause-refused g c =
    let same = c.in_err-join_last.ensures.same in
    on_err c.from_residual.result _ (last_still g.N.Machine g.N.CrossingNodes c.loop.self c.join_last.new.self same.0 same.1 c.in_err-join_last.ensures.refused)

pub loop-preserved : goal.loop-preserved
loop-preserved g c =
    let i = c.loop.invariant in
    let k = i.can in
    let joined = c.in_ok-join_last.ensures.since in
    let r = joined k.meaning k.first k.hubs k.whole k.opening k.since in
    let one = c.in_ok-join_last.ensures.count in
    let all = i.count in
    record {
      can = record { meaning = k.meaning; first = k.first; hubs = k.hubs; whole = k.whole; opening = r.0; since = r.1 };
      since = λ m first hubs whole opening h. let a = i.since m first hubs whole opening h in joined m first hubs whole a.0 a.1;
      count = omega (arith, one, all);
    }

pub returns-clause-whole : goal.returns-clause-whole
returns-clause-whole g c = λ m first hubs whole opening h.
    let i = c.loop.invariant in
    let edges = c.loop.self.edges.items in
    let all = i.count in
    let over = c.loop-test.false in
    none_left g.N.Machine g.N.CrossingNodes m first hubs whole c.loop.self (none_counted edges (length edges) refl (omega (arith, all, over))) (i.since m first hubs whole opening h)
