use Rattle.std.proofs.Common.{rules}
use Rattle.rsx_plain.proofs.Counts.{counts}
use Rattle.rsx_plain.proofs.Balance.{plain_counts_in}
use Rattle.rsx_plain.proofs.node.PlainNodeMachine.on_signal.Goals as goal

pub returns-in-Ok-clause-counts : goal.returns-in-Ok-clause-counts
returns-in-Ok-clause-counts g c =
    counts (g.O.Ops.meaning c.args.ops.now) c.args.self.now.state c.react.new.self c.args.signal c.react.new.out (λ rest. c.in-Ok.ensures.ok rest) c.in-Ok.ensures.state c.in-Ok.ensures.over

pub returns-in-Ok-clause-counted : goal.returns-in-Ok-clause-counted
returns-in-Ok-clause-counted g c = plain_counts_in c.args.self.now _ c.args.input c.args.signal (search rules) (counts (g.O.Ops.meaning c.args.ops.now) c.args.self.now.state c.react.new.self c.args.signal c.react.new.out (λ rest. c.in-Ok.ensures.ok rest) c.in-Ok.ensures.state c.in-Ok.ensures.over) c.in-Ok.ensures.over

pub returns-in-Ok-clause-ok : goal.returns-in-Ok-clause-ok
returns-in-Ok-clause-ok g c = search rules

pub returns-in-Ok-clause-enabled : goal.returns-in-Ok-clause-enabled
returns-in-Ok-clause-enabled g c = search rules

pub returns-in-Err-clause-err : goal.returns-in-Err-clause-err
returns-in-Err-clause-err g c = search rules
