use Rattle.std.proofs.Common.{◌≡◌, ◌++◌, drop}
use Rattle.rsx_types.specs.Stream.{Stream, signals_then}
use Rattle.rsx_subscriber.proofs.subscription.behind.Given as goal

abbrev pub invariant-loop-index : goal.invariant-loop-index
invariant-loop-index g l =
    let rest : Stream _ = record { items = l.left.items; ending = l.ending } in
    let left = signals_then (drop l.index l.queue) rest in
    let whole = signals_then l.queue rest in
    (l.items.items ++ left.items ≡ whole.items) × (left.ending ≡ whole.ending)
