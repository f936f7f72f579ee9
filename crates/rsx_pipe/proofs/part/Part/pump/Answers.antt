use Rattle.rsx_types.specs.declared.fault.NoMemory.{NoMemory}
use Rattle.rsx_tree.proofs.Idles.{asked_enough}
use Rattle.rsx_pipe.proofs.Parts.{ended_served}
use Rattle.rsx_pipe.proofs.part.Part.pump.Goals as goal

pub returns-clause-pumped : goal.returns-clause-pumped
returns-clause-pumped g c = rw (← c.self.view_is) c.pump.ensures.pumped

pub returns-clause-served : goal.returns-clause-served
returns-clause-served g c =
    let p = c.pump.ensures.pumped in
    let m = g.O.Ops.meaning c.args.ops.now in
    ended_served NoMemory g.N.Machine m (g.met.N.Machine.ending_waits m) (asked_enough g.N.Machine m (g.met.N.Machine.shows m) g.met.N.Machine.asked_enough) (g.met.N.Machine.settles m) (g.met.N.Nodes.rests m) c.args.budget p.0 c.pump.new.self (g.S.Sink.room c.pump.new.out) c.pump.result p.1

pub returns-clause-memory : goal.returns-clause-memory
returns-clause-memory g c = rw (← c.self.view_is) c.pump.ensures.memory
