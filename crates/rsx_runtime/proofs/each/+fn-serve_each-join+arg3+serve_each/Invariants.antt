use Rattle.std.proofs.Common.{length, ◌+◌, ◌*◌}
use Rattle.rsx_runtime.proofs.each.+fn-serve_each-join+arg3+serve_each.Given as goal

abbrev pub decreases-join+arg3 : goal.decreases-join+arg3
decreases-join+arg3 g l = 2 * length l.seats.items + 1

abbrev pub decreases-serve_each : goal.decreases-serve_each
decreases-serve_each g l = 2 * length l.seats.items
