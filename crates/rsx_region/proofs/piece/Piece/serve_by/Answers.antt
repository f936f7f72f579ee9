use Rattle.std.proofs.Common.{refl, sym, arith}
use Rattle.rsx_region.proofs.Runs.{goes_then}
use Rattle.rsx_region.proofs.Seen.{rested, seen_after}
use Rattle.rsx_region.proofs.piece.Piece.serve_by.Goals as goal

pub returns-in-NoMemory-clause-run : goal.returns-in-NoMemory-clause-run
returns-in-NoMemory-clause-run g c = goes_then g.N.Machine (g.O.Ops.meaning c.args.ops.now) c.args.links.now c.loop-moves.moves c.loop-moves.pops c.turn-turn.result.moves c.turn-turn.result.pops c.outcome.result.moves c.outcome.result.pops c.args.self.now c.loop-moves.self c.turn-turn.new.self (sym c.outcome.ensures.1) (sym c.outcome.ensures.2) c.loop-moves.invariant.run c.turn-turn.ensures.run

pub returns-in-NoMemory-clause-stands : goal.returns-in-NoMemory-clause-stands
returns-in-NoMemory-clause-stands g c hubs opening h = c.turn-turn.ensures.stands hubs opening (c.loop-moves.invariant.stands hubs opening h)

pub returns-then-turn-eq0-clause-run : goal.returns-then-turn-eq0-clause-run
returns-then-turn-eq0-clause-run g c = goes_then g.N.Machine (g.O.Ops.meaning c.args.ops.now) c.args.links.now c.loop-moves.moves c.loop-moves.pops c.turn-turn.result.moves c.turn-turn.result.pops c.outcome-then-turn-eq0.result.moves c.outcome-then-turn-eq0.result.pops c.args.self.now c.loop-moves.self c.turn-turn.new.self (sym c.outcome-then-turn-eq0.ensures.1) (sym c.outcome-then-turn-eq0.ensures.2) c.loop-moves.invariant.run c.turn-turn.ensures.run

pub returns-then-turn-eq0-clause-stands : goal.returns-then-turn-eq0-clause-stands
returns-then-turn-eq0-clause-stands g c hubs opening h = c.turn-turn.ensures.stands hubs opening (c.loop-moves.invariant.stands hubs opening h)

pub loop-moves-preserved-else-turn-eq0 : goal.loop-moves-preserved-else-turn-eq0
loop-moves-preserved-else-turn-eq0 g c =
    let i = c.loop-moves.invariant in
    let s = c.turn-turn.ensures in
    let before = i.most in
    let most = s.most in record {
      ends = s.ends;
      run = goes_then g.N.Machine (g.O.Ops.meaning c.args.ops.now) c.args.links.now c.loop-moves.moves c.loop-moves.pops c.turn-turn.result.moves c.turn-turn.result.pops _ _ c.args.self.now c.loop-moves.self c.turn-turn.new.self refl refl i.run s.run;
      stands = λ hubs opening h. s.stands hubs opening (i.stands hubs opening h);
      most = omega (arith, before, most);
    }

pub loop-moves-preserved : goal.loop-moves-preserved
loop-moves-preserved g c =
    let i = c.loop-moves.invariant in
    let s = c.turn-turn.ensures in
    let before = i.most in
    let most = s.most in record {
      ends = s.ends;
      run = goes_then g.N.Machine (g.O.Ops.meaning c.args.ops.now) c.args.links.now c.loop-moves.moves c.loop-moves.pops c.turn-turn.result.moves c.turn-turn.result.pops _ _ c.args.self.now c.loop-moves.self c.turn-turn.new.self refl refl i.run s.run;
      stands = λ hubs opening h. s.stands hubs opening (i.stands hubs opening h);
      most = omega (arith, before, most);
    }

pub returns-then-turn-eq0-clause-looked : goal.returns-then-turn-eq0-clause-looked
returns-then-turn-eq0-clause-looked g c e live = seen_after g.N.Machine (g.O.Ops.meaning c.args.ops.now) c.args.links.now c.loop-moves.moves c.loop-moves.pops c.args.self.now c.loop-moves.self c.turn-turn.new.self c.loop-moves.invariant.run (c.turn-turn.ensures.seen c.in-Idle.is c.if-turn-eq0.true live)

pub returns-in-NoMemory-clause-still : goal.returns-in-NoMemory-clause-still
returns-in-NoMemory-clause-still g c n = rested g.N.Machine (g.O.Ops.meaning c.args.ops.now) c.args.links.now c.outcome.result.moves c.outcome.result.pops c.args.self.now c.turn-turn.new.self (returns-in-NoMemory-clause-run g c) n

pub returns-then-turn-eq0-clause-still : goal.returns-then-turn-eq0-clause-still
returns-then-turn-eq0-clause-still g c n = rested g.N.Machine (g.O.Ops.meaning c.args.ops.now) c.args.links.now c.outcome-then-turn-eq0.result.moves c.outcome-then-turn-eq0.result.pops c.args.self.now c.turn-turn.new.self (returns-then-turn-eq0-clause-run g c) n

pub returns-clause-still : goal.returns-clause-still
returns-clause-still g c n = rested g.N.Machine (g.O.Ops.meaning c.args.ops.now) c.args.links.now c.loop-moves.moves c.loop-moves.pops c.args.self.now c.loop-moves.self c.loop-moves.invariant.run n
