use Rattle.rsx_region.proofs.Runs.{goes_then, none_plus, one_made}
use Rattle.rsx_region.proofs.piece.Piece.go_on.Goals as goal

pub returns-in-Ok-true-clause-run : goal.returns-in-Ok-true-clause-run
returns-in-Ok-true-clause-run g c =
    let r = c.flow-rest in
    goes_then g.N.Machine (g.O.Ops.meaning c.args.ops.now) c.args.links.now _ 0 r.result.moves r.result.pops c.outcome.result.moves c.outcome.result.pops c.args.self.now c.step.new.self r.new.self (one_made c.in-Ok-true.field-0 r.result.moves c.outcome.result.moves c.in-Ok-true.field-0-test c.outcome.ensures.1) (none_plus r.result.pops c.outcome.result.pops c.outcome.ensures.2) c.in-Ok-true.ensures.run r.ensures.run

pub returns-in-Ok-true-clause-stands : goal.returns-in-Ok-true-clause-stands
returns-in-Ok-true-clause-stands g c hubs opening h = c.flow-rest.ensures.stands hubs opening (c.in-Ok-true.ensures.stands hubs opening h)
