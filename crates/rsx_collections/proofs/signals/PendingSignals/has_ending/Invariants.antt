use Rattle.std.proofs.Common.{◌≡◌, take, reverse}
use Rattle.rsx_collections.specs.Signals.{has_ending}
use Rattle.rsx_collections.proofs.signals.PendingSignals.has_ending.Given as goal

abbrev pub invariant-loop-at : goal.invariant-loop-at
invariant-loop-at g l = has_ending (reverse (take l.at l.self-inside.reversed.items)) ≡ has_ending l.fn.self.left
