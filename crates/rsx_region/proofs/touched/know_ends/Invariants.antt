use Rattle.std.proofs.Common.{◌≡◌}
use Rattle.rsx_region.specs.Spread.{numbers_in, rows_of}
use Rattle.rsx_region.proofs.touched.know_ends.Given as goal

abbrev pub invariant-loop-at : goal.invariant-loop-at
invariant-loop-at g l = record {
  rows : rows_of l.regions ≡ rows_of l.initial.regions;
  numbers : numbers_in l.regions ≡ numbers_in l.initial.regions;
}
