use Rattle.std.proofs.Common.{◌≡◌, drop}
use Rattle.rsx_values.specs.Latest.{all_latest}
use Rattle.rsx_values.proofs.Walks.{copied_then}
use Rattle.rsx_values.proofs.latest.VecOptionLatest.copies.Given as goal

abbrev pub invariant-loop-latest : goal.invariant-loop-latest
invariant-loop-latest g l = copied_then l.items.items (drop l.latest-index l.self.items) ≡ all_latest l.self.items
