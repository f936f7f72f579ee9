use Rattle.rsx_region.proofs.Runs.{goes_then, none_plus, plus_none}
use Rattle.rsx_region.proofs.piece.Piece.pass.Goals as goal

pub returns-clause-run : goal.returns-clause-run
returns-clause-run g c =
    let m = g.O.Ops.meaning c.args.ops.now in
    let moves = c.pull_all-moves.result in
    let r = c.pop_each-popped in
    goes_then g.N.Machine m c.args.links.now moves 0 0 r.result.pops c.outcome.result.moves c.outcome.result.pops c.args.self.now c.pull_all-moves.new.self r.new.self (plus_none moves c.outcome.result.moves c.outcome.ensures.1) (none_plus r.result.pops c.outcome.result.pops c.outcome.ensures.2) c.pull_all-moves.ensures.run (r.ensures.run m)

pub returns-clause-stands : goal.returns-clause-stands
returns-clause-stands g c hubs opening h = c.pop_each-popped.ensures.stands (g.O.Ops.meaning c.args.ops.now) hubs opening (c.pull_all-moves.ensures.stands hubs opening h)
