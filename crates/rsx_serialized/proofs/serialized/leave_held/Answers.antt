use Rattle.std.proofs.Common.{refl}
use Rattle.rsx_gate.specs.Seats.{Holds}
use Rattle.rsx_runtime.proofs.Seats.{where_missed}
use Rattle.rsx_serialized.specs.Resting.{IsAtRest}
use Rattle.rsx_serialized.proofs.Gates.{held_still, seat_kept}
use Rattle.rsx_serialized.proofs.serialized.leave_held.Goals as goal

pub returns : goal.returns
returns g c = where_missed _ _ _ c.try_leave.result (λ m. (m, seat_kept c.args.gate.now _ c.args.seat.now c.try_leave.new.seat m.0 m.1 (λ b. refl) (held_still c.args.gate.now (Holds c.args.gate.now c.args.seat.now) (λ x. IsAtRest x) c.requires))) c.try_leave.ensures
