use Rattle.std.proofs.Common.{refl}
use Rattle.rsx_serialized.proofs.Gates.{seat_kept}
use Rattle.rsx_serialized.proofs.serialized.mark_held.Goals as goal

pub returns-clause-holds : goal.returns-clause-holds
returns-clause-holds g c =
    let m = c.mark.ensures in
    seat_kept c.args.gate.now _ c.args.seat.now c.mark.new.seat m.0.2 m.1 (λ b. refl) c.requires
