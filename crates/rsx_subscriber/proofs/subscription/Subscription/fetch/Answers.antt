use Rattle.std.proofs.Common.{◌+◌, arith}
use Rattle.rsx_subscriber.proofs.Moves.{pumped_more, pumped_none}
use Rattle.rsx_subscriber.proofs.subscription.Subscription.fetch.Goals as goal

pub returns-then-len-gt0-clause-pumped : goal.returns-then-len-gt0-clause-pumped
returns-then-len-gt0-clause-pumped g c = (0, omega arith, pumped_none g.N.Machine g.N.Nodes (g.O.Ops.meaning c.args.ops.now) c.args.id c.args.self.now c.args.out.now.signals)

pub items-preserved : goal.items-preserved
items-preserved g c =
    let done = c.items.invariant.0 in
    let more = c.in-Ok-true.ensures.pumped in
    let e = done.1 in
    let k = more.1 in (
      (done.0 + more.0, omega (arith, e, k), pumped_more g.N.Machine g.N.Nodes (g.O.Ops.meaning c.args.ops.now) c.args.id done.0 more.0 c.args.self.now c.items.self c.fetch_one.new.self c.args.out.now.signals c.items.out.signals c.fetch_one.new.out.signals done.2 more.2),
      (c.in-Ok-true.ensures.delivered c.in-Ok-true.field-0-test).0,
    )

pub items-preserved-then-singles-gt0 : goal.items-preserved-then-singles-gt0
items-preserved-then-singles-gt0 g c =
    let done = c.items.invariant.0 in
    let more = c.in-Ok-true.ensures.pumped in
    let e = done.1 in
    let k = more.1 in (
      (done.0 + more.0, omega (arith, e, k), pumped_more g.N.Machine g.N.Nodes (g.O.Ops.meaning c.args.ops.now) c.args.id done.0 more.0 c.args.self.now c.items.self c.fetch_one.new.self c.args.out.now.signals c.items.out.signals c.fetch_one.new.out.signals done.2 more.2),
      (c.in-Ok-true.ensures.delivered c.in-Ok-true.field-0-test).0,
    )

pub items-preserved-then-room-ge-FEWEST_IN_BATCH-2 : goal.items-preserved-then-room-ge-FEWEST_IN_BATCH-2
items-preserved-then-room-ge-FEWEST_IN_BATCH-2 g c =
    let m = g.O.Ops.meaning c.args.ops.now in
    let done = c.items.invariant.0 in
    let more = c.in-Ok-true.ensures.pumped in
    let many = c.fetch_batches-singles.ensures.pumped in
    let e = done.1 in
    let k = more.1 in
    let j = many.1 in
    let first = pumped_more g.N.Machine g.N.Nodes m c.args.id done.0 more.0 c.args.self.now c.items.self c.fetch_one.new.self c.args.out.now.signals c.items.out.signals c.fetch_one.new.out.signals done.2 more.2 in (
      ((done.0 + more.0) + many.0, omega (arith, e, k, j), pumped_more g.N.Machine g.N.Nodes m c.args.id (done.0 + more.0) many.0 c.args.self.now c.fetch_one.new.self c.fetch_batches-singles.new.self c.args.out.now.signals c.fetch_one.new.out.signals c.fetch_batches-singles.new.out.signals first many.2),
      c.fetch_batches-singles.ensures.queue,
    )

pub returns-in-Ok-false-clause-pumped : goal.returns-in-Ok-false-clause-pumped
returns-in-Ok-false-clause-pumped g c =
    let done = c.items.invariant.0 in
    let more = c.in-Ok-false.ensures.pumped in
    let e = done.1 in
    let k = more.1 in
    (done.0 + more.0, omega (arith, e, k), pumped_more g.N.Machine g.N.Nodes (g.O.Ops.meaning c.args.ops.now) c.args.id done.0 more.0 c.args.self.now c.items.self c.fetch_one.new.self c.args.out.now.signals c.items.out.signals c.fetch_one.new.out.signals done.2 more.2)

pub returns-in-Err-clause-pumped : goal.returns-in-Err-clause-pumped
returns-in-Err-clause-pumped g c =
    let done = c.items.invariant.0 in
    let more = c.in-Err.ensures.pumped in
    let e = done.1 in
    let k = more.1 in
    (done.0 + more.0, omega (arith, e, k), pumped_more g.N.Machine g.N.Nodes (g.O.Ops.meaning c.args.ops.now) c.args.id done.0 more.0 c.args.self.now c.items.self c.fetch_one.new.self c.args.out.now.signals c.items.out.signals c.fetch_one.new.out.signals done.2 more.2)
