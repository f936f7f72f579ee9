use Rattle.std.proofs.Common.{◌≡◌, ◌+◌, ◌≤◌, ◌++◌, length, map, vec_len}
use Rattle.rsx_types.specs.declared.signal.Signal.TheVariants.{Next}
use Rattle.rsx_collections.proofs.signals.PendingSignals.put_items_front.Given as goal

abbrev pub invariant-loop-item : goal.invariant-loop-item
invariant-loop-item g l = record {
  left : map Next l.items.items ++ l.self.left ≡ map Next l.fn.items.items ++ l.fn.self.left;
  fits : length l.items.items + length l.self.left ≤ l.self.room;
  room : l.self.room ≡ l.fn.self.room;
}

abbrev pub decreases-loop-item : goal.decreases-loop-item
decreases-loop-item g l = vec_len l.items
