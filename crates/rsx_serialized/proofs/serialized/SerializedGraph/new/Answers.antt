use Rattle.rsx_serialized.proofs.Gates.{first_fits}
use Rattle.rsx_serialized.proofs.serialized.SerializedGraph.new.Goals as goal

pub new-requires : goal.new-requires
new-requires g c = first_fits (record { region = c.of.result; links = c.of-2.result }) c.args.links c.args.region c.of-2.ensures c.of.ensures c.requires
