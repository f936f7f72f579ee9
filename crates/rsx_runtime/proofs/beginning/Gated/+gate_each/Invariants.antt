use Rattle.std.proofs.Common.{length}
use Rattle.rsx_runtime.proofs.beginning.Gated.+gate_each.Given as goal

abbrev pub decreases-gate_each : goal.decreases-gate_each
decreases-gate_each g l = length l.self.regions.items
