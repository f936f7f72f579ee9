use Rattle.rsx_runtime.proofs.Parking.{admits}
use Rattle.rsx_runtime.proofs.park.WorkerUnparker.new.Goals as goal

pub pass-pass-requires : goal.pass-pass-requires
pass-pass-requires c = admits
