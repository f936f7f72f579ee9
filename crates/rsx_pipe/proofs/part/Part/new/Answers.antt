use Rattle.rsx_pipe.proofs.Parts.{fresh_part}
use Rattle.rsx_pipe.proofs.part.Part.new.Goals as goal

pub returns-clause-stands : goal.returns-clause-stands
returns-clause-stands g c = λ m hubs e published built taken. fresh_part g.N.Machine m hubs published e (record { tree = c.args.tree; root = c.new-root.result }) taken built c.new-root.ensures.state c.new-root.ensures.sent

pub returns-clause-root : goal.returns-clause-root
returns-clause-root g c = let e = c.new-root.ensures in λ i. record { asked = e.asked i; sent = e.sent i; state = e.state i }
