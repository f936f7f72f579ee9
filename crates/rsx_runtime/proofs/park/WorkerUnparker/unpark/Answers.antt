use Rattle.crossbeam_utils.specs.Token.{parker_view}
use Rattle.rsx_runtime.proofs.Parking.{unparks}
use Rattle.rsx_runtime.proofs.park.WorkerUnparker.unpark.Goals as goal

pub unpark_as-requires-clause-rule : goal.unpark_as-requires-clause-rule
unpark_as-requires-clause-rule c = unparks c.args.self.now.pass.id (parker_view c.args.self.now.pass)
