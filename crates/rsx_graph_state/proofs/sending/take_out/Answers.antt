use Rattle.std.proofs.Common.{ap, refl}
use Rattle.rsx_pipe.specs.Part.{Part}
use Rattle.rsx_graph_state.specs.declared.feed.Feed.{Feed}
use Rattle.rsx_graph_state.proofs.sending.take_out.Goals as goal

pub returns-in-Ok-take_copies-clause-taken : goal.returns-in-Ok-take_copies-clause-taken
returns-in-Ok-take_copies-clause-taken g c = record {
  signal = c.in-Ok.signal;
  sent = c.in-Ok.ensures.sent;
  number = refl;
  takes = c.in-Ok-take_copies.ensures.takes;
  taken = c.in-Ok-take_copies.ensures.taken;
  copies = c.put_last.ensures;
}

pub returns-in-Err-take_copies-clause-same : goal.returns-in-Err-take_copies-clause-same
returns-in-Err-take_copies-clause-same g c =
    let with_part : Part g.row.N.Denot → Feed g.row.N.Denot = λ p. record { part = p; hub = c.args.feed.now.hub } in
    (ap with_part (c.put_back.ensures (g.O.Ops.meaning c.args.ops.now) c.args.feed.now.part c.in-Ok.ensures.sent), c.in-Err-take_copies.ensures.same, c.clear.ensures.items)
