use Rattle.std.proofs.Common.{List, subst}
use Rattle.rsx_gate.specs.Seats.{Holds}
use Rattle.rsx_link.specs.declared.link.Link.{Link}
use Rattle.rsx_runtime.specs.Passing.{HasServed}
use Rattle.rsx_runtime.specs.Poking.{HasFitting, IsAmong}
use Rattle.rsx_runtime.proofs.Gates.{of_this}
use Rattle.rsx_runtime.proofs.live.Live.serve_seat.Goals as goal

pub serve_held-requires-clause-holds : goal.serve_held-requires-clause-holds
serve_held-requires-clause-holds g c κs within = of_this (λ x. HasFitting g.N.Machine g.O.Ops.meaning x (Holds x c.args.seat.now)) c.args.self.now.gates.items c.args.region c.gate.result.now c.gate.ensures c.requires

pub returns : goal.returns
returns g c =
    let S : List (Link g.row.T.Denot) → Type 0 = λ links. IsAmong c.args.self.now.gates.items c.args.region (λ x. HasServed g.N.Machine g.O.Ops.meaning c.args.self.now.ops links c.args.budget c.serve_held.result x c.args.seat.now c.serve_held.new.seat) in
    subst S c.deref.ensures.value (c.gate.result.now, c.gate.ensures, c.serve_held.ensures.0)
