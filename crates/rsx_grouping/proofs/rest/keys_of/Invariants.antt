use Rattle.std.proofs.Common.{◌≡◌, drop}
use Rattle.rsx_grouping.specs.Rest.{see_all}
use Rattle.rsx_grouping.specs.Rows.{keys_of}
use Rattle.rsx_grouping.proofs.rest.keys_of.Given as goal

abbrev pub invariant-loop-row : goal.invariant-loop-row
invariant-loop-row g l = see_all l.keys (keys_of (drop l.row-index l.rows)) ≡ keys_of l.rows
