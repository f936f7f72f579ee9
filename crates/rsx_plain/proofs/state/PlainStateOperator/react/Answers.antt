use Rattle.rsx_plain.proofs.Reactions.{says_all}
use Rattle.rsx_plain.proofs.state.PlainStateOperator.react.Goals as goal

pub returns-clause-ok : goal.returns-clause-ok
returns-clause-ok g c = (says_all (g.O.Ops.meaning c.args.ops.now) (g.O.Ops.allocates c.args.ops.now) c.args.self.now c.args.signal c.react.result c.react.new.self c.react.new.state c.react.ensures).ok

pub returns-clause-cut : goal.returns-clause-cut
returns-clause-cut g c = (says_all (g.O.Ops.meaning c.args.ops.now) (g.O.Ops.allocates c.args.ops.now) c.args.self.now c.args.signal c.react.result c.react.new.self c.react.new.state c.react.ensures).cut

pub returns-clause-over : goal.returns-clause-over
returns-clause-over g c = (says_all (g.O.Ops.meaning c.args.ops.now) (g.O.Ops.allocates c.args.ops.now) c.args.self.now c.args.signal c.react.result c.react.new.self c.react.new.state c.react.ensures).over

pub returns-clause-state : goal.returns-clause-state
returns-clause-state g c = (says_all (g.O.Ops.meaning c.args.ops.now) (g.O.Ops.allocates c.args.ops.now) c.args.self.now c.args.signal c.react.result c.react.new.self c.react.new.state c.react.ensures).state

pub returns-clause-err : goal.returns-clause-err
returns-clause-err g c = (says_all (g.O.Ops.meaning c.args.ops.now) (g.O.Ops.allocates c.args.ops.now) c.args.self.now c.args.signal c.react.result c.react.new.self c.react.new.state c.react.ensures).err

pub returns-clause-memory : goal.returns-clause-memory
returns-clause-memory g c = (says_all (g.O.Ops.meaning c.args.ops.now) (g.O.Ops.allocates c.args.ops.now) c.args.self.now c.args.signal c.react.result c.react.new.self c.react.new.state c.react.ensures).memory

pub returns-clause-same : goal.returns-clause-same
returns-clause-same g c = (says_all (g.O.Ops.meaning c.args.ops.now) (g.O.Ops.allocates c.args.ops.now) c.args.self.now c.args.signal c.react.result c.react.new.self c.react.new.state c.react.ensures).same

pub returns-clause-none : goal.returns-clause-none
returns-clause-none g c = (says_all (g.O.Ops.meaning c.args.ops.now) (g.O.Ops.allocates c.args.ops.now) c.args.self.now c.args.signal c.react.result c.react.new.self c.react.new.state c.react.ensures).none
