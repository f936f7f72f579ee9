use Rattle.std.proofs.Common.{◌≡◌}
use Rattle.rsx_graph_state.proofs.Handing.{times_given}
use Rattle.rsx_graph_state.proofs.publishing.put_and_take_in.Goals as goal

pub push_reserved-requires : goal.push_reserved-requires
push_reserved-requires g c = c.in_ok-copies.ensures.room c.if-readers-gt0.true

pub returns-then-readers-gt0-clause-signals : goal.returns-then-readers-gt0-clause-signals
returns-then-readers-gt0-clause-signals g c = λ s waits.
    let all = c.in_ok-copies.ensures.signals s waits in
    let signal = c.in_ok-signal.ensures.signal in
    let same : c.in-Some.signal ≡ s = cc in
    let e = times_given c.args.readers c.copies.new.signals.items s c.in-Some.signal c.if-readers-gt0.true all same in
    let p = c.push_reserved.ensures.items in
    cc
