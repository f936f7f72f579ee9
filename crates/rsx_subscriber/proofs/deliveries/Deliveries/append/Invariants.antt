use Rattle.std.proofs.Common.{◌≡◌, ◌+◌, ◌≤◌, ◌++◌, map, reverse}
use Rattle.std.specs.Vec.{vec_len, vec_capacity}
use Rattle.rsx_types.specs.declared.signal.Signal.TheVariants.{Next}
use Rattle.rsx_subscriber.specs.Delivered.{to}
use Rattle.rsx_subscriber.proofs.deliveries.Deliveries.append.Given as goal

abbrev pub invariant-loop-item : goal.invariant-loop-item
invariant-loop-item g l =
    (l.self-inside.signals.items ++ to l.sub (map Next (reverse l.items.items)) ≡ l.fn.self.signals ++ to l.sub (map Next l.fn.items.items))
    × (vec_len l.self-inside.signals + vec_len l.items ≤ vec_capacity l.self-inside.signals)

abbrev pub decreases-loop-item : goal.decreases-loop-item
decreases-loop-item g l = vec_len l.items
