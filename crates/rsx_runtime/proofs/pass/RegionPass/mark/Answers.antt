use Rattle.rsx_gate.specs.Seats.{Holds}
use Rattle.rsx_runtime.specs.Poking.{HasFitting}
use Rattle.rsx_runtime.proofs.Gates.{of_this}
use Rattle.rsx_runtime.proofs.pass.RegionPass.mark.Goals as goal

pub mark_held-requires-after_bounds : goal.mark_held-requires-after_bounds
mark_held-requires-after_bounds g c κs within = of_this (λ x. HasFitting g.N.Machine g.O.Ops.meaning x (Holds x c.args.self.now.seat.now)) c.args.live.now.gates.items c.args.self.now.region c.gate.result.now c.gate.ensures c.requires
