use Rattle.std.proofs.Common.{◌≡◌, ℕ, ◌<◌, false, slice_index_or}
use Rattle.rsx_values.specs.Pick.{InputLeft}
use Rattle.rsx_merging.specs.Lanes.{next_front, may_take}
use Rattle.rsx_merging.proofs.lanes.Lanes.first_ready.Given as goal

abbrev pub invariant-loop-at : goal.invariant-loop-at
invariant-loop-at g l = (k : ℕ) (i : InputLeft _) → k < l.at → slice_index_or l.self k i ≡ i → may_take (next_front i.0 l.self) l.items ≡ false
