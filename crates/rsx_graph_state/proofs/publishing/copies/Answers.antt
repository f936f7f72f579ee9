use Rattle.std.proofs.Common.{◌≡◌, arith}
use Rattle.rsx_graph_state.proofs.Handing.{times_on}
use Rattle.rsx_graph_state.proofs.publishing.copies.Goals as goal

pub loop-made-preserved : goal.loop-made-preserved
loop-made-preserved g c =
    let i = c.loop-made.invariant in
    let pushed = c.push_reserved.ensures in
    let room = i.room in
    let few = i.few in
    let capacity = pushed.capacity in
    let more = pushed.len in record {
      room = omega (arith, room, capacity);
      few = omega (arith, few, more);
      signals = λ s waits.
          let one : c.in-Some.signal ≡ s = cc (c.in_ok-signal.ensures, waits) in
          times_on c.loop-made.made c.loop-made.signals.items c.push_reserved.new.self.items s c.in-Some.signal pushed.items (i.signals s waits) one;
    }
