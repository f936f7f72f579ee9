use Rattle.std.proofs.Common.{◌≡◌, ◌+◌, refl, arith}
use Rattle.rsx_region.proofs.Runs.{goes_then}
use Rattle.rsx_region.proofs.piece.Piece.pull_on.Goals as goal

pub returns-then-root_edge-sent-clause-run : goal.returns-then-root_edge-sent-clause-run
returns-then-root_edge-sent-clause-run g c =
    let many = c.pull_many-many.result in
    let none = c.if-many-gt0.false in
    let sum : many + c.pull-moves.result ≡ c.pull-moves.result = omega (arith, none) in
    goes_then g.N.Machine (g.O.Ops.meaning c.args.ops.now) c.args.links.now many 0 c.pull-moves.result 0 c.pull-moves.result 0 c.args.self.now c.pull_many-many.new.self c.pull-moves.new.self sum refl c.pull_many-many.ensures.run c.pull-moves.ensures.run

pub returns-then-root_edge-sent-clause-stands : goal.returns-then-root_edge-sent-clause-stands
returns-then-root_edge-sent-clause-stands g c hubs opening h = c.pull-moves.ensures.stands hubs opening (c.pull_many-many.ensures.stands hubs opening h)

pub returns-else-root_edge-sent-clause-run : goal.returns-else-root_edge-sent-clause-run
returns-else-root_edge-sent-clause-run g c =
    let many = c.pull_many-many.result in
    let none = c.if-many-gt0.false in
    let sum : many + c.pull-moves.result ≡ c.pull-moves.result = omega (arith, none) in
    goes_then g.N.Machine (g.O.Ops.meaning c.args.ops.now) c.args.links.now many 0 c.pull-moves.result 0 c.pull-moves.result 0 c.args.self.now c.pull_many-many.new.self c.pull-moves.new.self sum refl c.pull_many-many.ensures.run c.pull-moves.ensures.run

pub returns-else-root_edge-sent-clause-stands : goal.returns-else-root_edge-sent-clause-stands
returns-else-root_edge-sent-clause-stands g c hubs opening h = c.pull-moves.ensures.stands hubs opening (c.pull_many-many.ensures.stands hubs opening h)
