use Rattle.std.proofs.Common.{refl, sym, ◌∙◌, arith}
use Rattle.rsx_region.proofs.Regions.{region_goes_then}
use Rattle.rsx_region.proofs.region.Region.serve_pieces.Goals as goal

pub returns-in-NoMemory-clause-run : goal.returns-in-NoMemory-clause-run
returns-in-NoMemory-clause-run g c = region_goes_then g.N.Machine (g.O.Ops.meaning c.args.ops.now) c.args.links.now c.loop-moves.moves c.loop-moves.pops c.round-round.result.moves c.round-round.result.pops c.outcome.result.moves c.outcome.result.pops c.args.self.now.pieces.items c.loop-moves.self.pieces.items c.round-round.new.self.pieces.items (sym c.outcome.ensures.1) (sym c.outcome.ensures.2) c.loop-moves.invariant.run c.round-round.ensures.run

pub returns-in-NoMemory-clause-stands : goal.returns-in-NoMemory-clause-stands
returns-in-NoMemory-clause-stands g c hubs opening h = c.round-round.ensures.stands hubs opening (c.loop-moves.invariant.stands hubs opening h)

pub returns-then-is_enough-clause-run : goal.returns-then-is_enough-clause-run
returns-then-is_enough-clause-run g c = region_goes_then g.N.Machine (g.O.Ops.meaning c.args.ops.now) c.args.links.now c.loop-moves.moves c.loop-moves.pops c.round-round.result.moves c.round-round.result.pops c.outcome-then-is_enough.result.moves c.outcome-then-is_enough.result.pops c.args.self.now.pieces.items c.loop-moves.self.pieces.items c.round-round.new.self.pieces.items (sym c.outcome-then-is_enough.ensures.1) (sym c.outcome-then-is_enough.ensures.2) c.loop-moves.invariant.run c.round-round.ensures.run

pub returns-then-is_enough-clause-stands : goal.returns-then-is_enough-clause-stands
returns-then-is_enough-clause-stands g c hubs opening h = c.round-round.ensures.stands hubs opening (c.loop-moves.invariant.stands hubs opening h)

pub returns-then-is_enough-clause-idle : goal.returns-then-is_enough-clause-idle
returns-then-is_enough-clause-idle g c e = c.round-round.ensures.idle c.in-Idle.is

pub loop-moves-preserved-else-is_enough : goal.loop-moves-preserved-else-is_enough
loop-moves-preserved-else-is_enough g c =
    let i = c.loop-moves.invariant in
    let s = c.round-round.ensures in
    let before = i.most in
    let most = s.most in record {
      ends = s.ends;
      number = s.number ∙ i.number;
      run = region_goes_then g.N.Machine (g.O.Ops.meaning c.args.ops.now) c.args.links.now c.loop-moves.moves c.loop-moves.pops c.round-round.result.moves c.round-round.result.pops _ _ c.args.self.now.pieces.items c.loop-moves.self.pieces.items c.round-round.new.self.pieces.items refl refl i.run s.run;
      stands = λ hubs opening h. s.stands hubs opening (i.stands hubs opening h);
      most = omega (arith, before, most);
    }

pub loop-moves-preserved : goal.loop-moves-preserved
loop-moves-preserved g c =
    let i = c.loop-moves.invariant in
    let s = c.round-round.ensures in
    let before = i.most in
    let most = s.most in record {
      ends = s.ends;
      number = s.number ∙ i.number;
      run = region_goes_then g.N.Machine (g.O.Ops.meaning c.args.ops.now) c.args.links.now c.loop-moves.moves c.loop-moves.pops c.round-round.result.moves c.round-round.result.pops _ _ c.args.self.now.pieces.items c.loop-moves.self.pieces.items c.round-round.new.self.pieces.items refl refl i.run s.run;
      stands = λ hubs opening h. s.stands hubs opening (i.stands hubs opening h);
      most = omega (arith, before, most);
    }
