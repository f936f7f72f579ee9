use Rattle.std.proofs.Common.{◌≡◌, ℕ, ◌<◌, false, slice_get}
use Rattle.rsx_grouping.specs.Rows.{can_pick_at}
use Rattle.rsx_grouping.proofs.table.next_of_all.Given as goal

abbrev pub invariant-loop-at : goal.invariant-loop-at
invariant-loop-at g l = (i : ℕ) → i < l.at → can_pick_at (slice_get l.rows i) l.done l.asked l.sent ≡ false
