use Rattle.rsx_serialized.proofs.Starts.{begun, between}
use Rattle.rsx_serialized.proofs.starting.begin.Goals as goal

pub returns-in-Ok-clause-started : goal.returns-in-Ok-clause-started
returns-in-Ok-clause-started g c = begun c.args.graph c.args.emitters c.args.taps (record { graph = c.args.graph; inlets = c.args.emitters.inlets; outlets = c.args.taps.outlets; pending = c.new.result; spare = c.args.taps.spare }) c.requires.emitters c.requires.taps c.in-Ok.graph c.in-Ok.seat c.new.ensures.items c.in-Ok.ensures.ok

pub new-requires-2-after_bounds : goal.new-requires-2-after_bounds
new-requires-2-after_bounds g c κs within = between c.args.graph c.args.emitters c.args.taps (record { graph = c.args.graph; inlets = c.args.emitters.inlets; outlets = c.args.taps.outlets; pending = c.new.result; spare = c.args.taps.spare }) c.requires.emitters c.requires.taps
