use Rattle.std.proofs.Common.{refl, sym, arith}
use Rattle.rsx_region.proofs.Runs.{goes_then}
use Rattle.rsx_region.proofs.piece.Piece.flow.Goals as goal

pub returns-in-NoMemory-clause-run : goal.returns-in-NoMemory-clause-run
returns-in-NoMemory-clause-run g c = goes_then g.N.Machine (g.O.Ops.meaning c.args.ops.now) c.args.links.now c.loop-moves.moves c.loop-moves.pops c.pass-round.result.moves c.pass-round.result.pops c.outcome.result.moves c.outcome.result.pops c.args.self.now c.loop-moves.self c.pass-round.new.self (sym c.outcome.ensures.1) (sym c.outcome.ensures.2) c.loop-moves.invariant.run c.pass-round.ensures.run

pub returns-in-NoMemory-clause-stands : goal.returns-in-NoMemory-clause-stands
returns-in-NoMemory-clause-stands g c hubs opening h = c.pass-round.ensures.stands hubs opening (c.loop-moves.invariant.stands hubs opening h)

pub returns-then-round-eq0-clause-run : goal.returns-then-round-eq0-clause-run
returns-then-round-eq0-clause-run g c = goes_then g.N.Machine (g.O.Ops.meaning c.args.ops.now) c.args.links.now c.loop-moves.moves c.loop-moves.pops c.pass-round.result.moves c.pass-round.result.pops c.outcome-then-round-eq0.result.moves c.outcome-then-round-eq0.result.pops c.args.self.now c.loop-moves.self c.pass-round.new.self (sym c.outcome-then-round-eq0.ensures.1) (sym c.outcome-then-round-eq0.ensures.2) c.loop-moves.invariant.run c.pass-round.ensures.run

pub returns-then-round-eq0-clause-stands : goal.returns-then-round-eq0-clause-stands
returns-then-round-eq0-clause-stands g c hubs opening h = c.pass-round.ensures.stands hubs opening (c.loop-moves.invariant.stands hubs opening h)

pub loop-moves-preserved-else-round-eq0 : goal.loop-moves-preserved-else-round-eq0
loop-moves-preserved-else-round-eq0 g c =
    let i = c.loop-moves.invariant in
    let s = c.pass-round.ensures in
    let before = i.most in
    let most = s.most in record {
      ends = s.ends;
      run = goes_then g.N.Machine (g.O.Ops.meaning c.args.ops.now) c.args.links.now c.loop-moves.moves c.loop-moves.pops c.pass-round.result.moves c.pass-round.result.pops _ _ c.args.self.now c.loop-moves.self c.pass-round.new.self refl refl i.run s.run;
      stands = λ hubs opening h. s.stands hubs opening (i.stands hubs opening h);
      most = omega (arith, before, most);
    }

pub loop-moves-preserved : goal.loop-moves-preserved
loop-moves-preserved g c =
    let i = c.loop-moves.invariant in
    let s = c.pass-round.ensures in
    let before = i.most in
    let most = s.most in record {
      ends = s.ends;
      run = goes_then g.N.Machine (g.O.Ops.meaning c.args.ops.now) c.args.links.now c.loop-moves.moves c.loop-moves.pops c.pass-round.result.moves c.pass-round.result.pops _ _ c.args.self.now c.loop-moves.self c.pass-round.new.self refl refl i.run s.run;
      stands = λ hubs opening h. s.stands hubs opening (i.stands hubs opening h);
      most = omega (arith, before, most);
    }
