use Rattle.std.proofs.Common.{◌≡◌, ◌++◌, take, reverse}
use Rattle.rsx_types.specs.Stream.{signals_then, items_then}
use Rattle.rsx_collections.proofs.signals.PendingSignalsInFront.in_front.Given as goal

abbrev pub invariant-loop-at : goal.invariant-loop-at
invariant-loop-at g l =
    items_then l.items.items (signals_then (reverse (take l.at l.self-inside.reversed.items)) l.fn.behind) ≡ signals_then l.fn.self.left l.fn.behind

abbrev pub invariant-loop-item : goal.invariant-loop-item
invariant-loop-item g l =
    (l.items.items ≡ l.initial.items.items ++ l.yielded) × (goal.iterator-loop-item g).can_next l.item-iterator × (goal.iterator-loop-item g).is_finite l.item-iterator
