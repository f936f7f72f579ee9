use Rattle.rsx_gate.specs.Seats.{Holds}
use Rattle.rsx_runtime.specs.Poking.{HasFitting}
use Rattle.rsx_runtime.proofs.Gates.{of_this}
use Rattle.rsx_runtime.proofs.pass.RegionPass.give_up.Goals as goal

pub release-requires : goal.release-requires
release-requires g c =
    let h = of_this (λ x. HasFitting g.N.Machine g.O.Ops.meaning x (Holds x c.args.self.seat.now)) c.args.live.now.gates.items c.args.self.region c.gate.result.now c.gate.ensures c.requires.pass in
    h
