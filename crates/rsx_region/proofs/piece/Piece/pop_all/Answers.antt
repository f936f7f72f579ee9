use Rattle.std.proofs.Common.{cond, refl}
use Rattle.rsx_region.proofs.Runs.{goes_then, one_made}
use Rattle.rsx_region.proofs.piece.Piece.pop_all.Goals as goal

pub returns-then-not-branch-clause-left : goal.returns-then-not-branch-clause-left
returns-then-not-branch-clause-left g c = λ _. c.in_ok-pop_at.ensures.left c.if-not-branch.true

pub returns-clause-run : goal.returns-clause-run
returns-clause-run g c m =
    let f = c.in_ok-pop_at.field-0 in
    let n = c.pop_many_at.result in
    goes_then g.N.Machine m c.args.links.now 0 (cond f 1 0) 0 n 0 _ c.args.self.now c.pop_at.new.self c.pop_many_at.new.self refl (one_made f n _ c.if-not-branch.false refl) (c.in_ok-pop_at.ensures.run m) (c.pop_many_at.ensures.run m)

pub returns-clause-stands : goal.returns-clause-stands
returns-clause-stands g c m hubs opening h = c.pop_many_at.ensures.stands m hubs opening (c.in_ok-pop_at.ensures.stands m hubs opening h)
