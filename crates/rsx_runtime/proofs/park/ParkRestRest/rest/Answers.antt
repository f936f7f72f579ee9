use Rattle.crossbeam_utils.specs.Token.{parker_view}
use Rattle.rsx_runtime.proofs.Parking.{takes}
use Rattle.rsx_runtime.proofs.park.ParkRestRest.rest.Goals as goal

pub park_as-requires-clause-rule : goal.park_as-requires-clause-rule
park_as-requires-clause-rule g c = takes c.args.self.now.own.pass.id (parker_view c.args.self.now.own.pass)
