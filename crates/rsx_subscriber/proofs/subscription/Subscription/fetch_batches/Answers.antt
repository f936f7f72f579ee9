use Rattle.std.proofs.Common.{◌+◌, arith}
use Rattle.rsx_subscriber.proofs.Moves.{pumped_more, pumped_none}
use Rattle.rsx_subscriber.proofs.subscription.Subscription.fetch_batches.Goals as goal

pub batches-preserved-then-fetch_batch : goal.batches-preserved-then-fetch_batch
batches-preserved-then-fetch_batch g c =
    let done = c.batches.invariant.0 in
    let more = c.fetch_batch.ensures.pumped in
    let e = done.1 in
    let k = more.1 in (
      (done.0 + more.0, omega (arith, e, k), pumped_more g.N.Machine g.N.Nodes (g.O.Ops.meaning c.args.ops.now) c.args.id done.0 more.0 c.args.self.now c.batches.self c.fetch_batch.new.self c.args.out.now.signals c.batches.out.signals c.fetch_batch.new.out.signals done.2 more.2),
      c.fetch_batch.ensures.queue,
    )

pub batches-init : goal.batches-init
batches-init g c = ((0, omega arith, pumped_none g.N.Machine g.N.Nodes (g.O.Ops.meaning c.args.ops.now) c.args.id c.args.self.now c.args.out.now.signals), c.requires)

pub returns-then-not-make_ahead-clause-pumped : goal.returns-then-not-make_ahead-clause-pumped
returns-then-not-make_ahead-clause-pumped g c =
    let m = g.O.Ops.meaning c.args.ops.now in
    let done = c.batches.invariant.0 in
    let first = c.fetch_batch.ensures.pumped in
    let second = c.make_ahead.ensures.pumped c.fetch_batch.new.out.signals in
    let e = done.1 in
    let k = first.1 in
    let l = second.1 in
    let tried = pumped_more g.N.Machine g.N.Nodes m c.args.id done.0 first.0 c.args.self.now c.batches.self c.fetch_batch.new.self c.args.out.now.signals c.batches.out.signals c.fetch_batch.new.out.signals done.2 first.2 in
    (done.0 + first.0 + second.0, omega (arith, e, k, l), pumped_more g.N.Machine g.N.Nodes m c.args.id (done.0 + first.0) second.0 c.args.self.now c.fetch_batch.new.self c.make_ahead.new.self c.args.out.now.signals c.fetch_batch.new.out.signals c.fetch_batch.new.out.signals tried second.2)

pub batches-preserved : goal.batches-preserved
batches-preserved g c =
    let m = g.O.Ops.meaning c.args.ops.now in
    let done = c.batches.invariant.0 in
    let first = c.fetch_batch.ensures.pumped in
    let second = c.make_ahead.ensures.pumped c.fetch_batch.new.out.signals in
    let e = done.1 in
    let k = first.1 in
    let l = second.1 in
    let tried = pumped_more g.N.Machine g.N.Nodes m c.args.id done.0 first.0 c.args.self.now c.batches.self c.fetch_batch.new.self c.args.out.now.signals c.batches.out.signals c.fetch_batch.new.out.signals done.2 first.2 in (
      (done.0 + first.0 + second.0, omega (arith, e, k, l), pumped_more g.N.Machine g.N.Nodes m c.args.id (done.0 + first.0) second.0 c.args.self.now c.fetch_batch.new.self c.make_ahead.new.self c.args.out.now.signals c.fetch_batch.new.out.signals c.fetch_batch.new.out.signals tried second.2),
      c.make_ahead.ensures.queue,
    )
