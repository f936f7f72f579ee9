use Rattle.std.proofs.Common.{rules}
use Rattle.rsx_window.proofs.Runs.{chain_closes}
use Rattle.rsx_window.proofs.current.CurrentWindowWindowing.close.Goals as goal

pub returns-in-Ok-clause-ok : goal.returns-in-Ok-clause-ok
returns-in-Ok-clause-ok g c =
    chain_closes (g.O.Ops.meaning c.args.ops.now) c.args.self.now c.in-Running.chain c.take.new.self c.in-Running.field-1 c.args.ending c.in-Ok.out
    (search rules) c.in-Ok.ensures.ok c.requires.ends (c.in-Ok.ensures.ended c.requires.ends)
