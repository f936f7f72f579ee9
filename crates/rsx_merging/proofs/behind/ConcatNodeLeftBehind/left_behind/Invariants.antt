use Rattle.std.proofs.Common.{◌≡◌, drop}
use Rattle.rsx_types.specs.Stream.{items_then}
use Rattle.rsx_merging.specs.Concat.{concat_left}
use Rattle.rsx_merging.proofs.behind.ConcatNodeLeftBehind.left_behind.Given as goal

abbrev pub invariant-loop-at : goal.invariant-loop-at
invariant-loop-at g l = items_then l.all.items (concat_left (drop l.at l.self.endings.items) (drop l.at l.incoming)) ≡ items_then l.fn.items.items (concat_left l.self.endings.items l.incoming)
