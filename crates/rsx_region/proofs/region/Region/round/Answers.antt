use Rattle.std.proofs.Common.{◌≤◌, length, refl, sym, ◌∙◌, arith}
use Rattle.rsx_region.specs.Serving.{IsAtRest}
use Rattle.rsx_region.proofs.Regions.{region_goes_then, rests_more}
use Rattle.rsx_region.proofs.Rests.{before_all}
use Rattle.rsx_region.proofs.region.Region.round.Goals as goal

pub returns-in-NoMemory-clause-run : goal.returns-in-NoMemory-clause-run
returns-in-NoMemory-clause-run g c = region_goes_then g.N.Machine (g.O.Ops.meaning c.args.ops.now) c.args.links.now c.loop-at.moves c.loop-at.pops c.serve_at-one.result.moves c.serve_at-one.result.pops c.outcome.result.moves c.outcome.result.pops c.args.self.now.pieces.items c.loop-at.self.pieces.items c.serve_at-one.new.self.pieces.items (sym c.outcome.ensures.1) (sym c.outcome.ensures.2) c.loop-at.invariant.run c.serve_at-one.ensures.run

pub returns-in-NoMemory-clause-stands : goal.returns-in-NoMemory-clause-stands
returns-in-NoMemory-clause-stands g c hubs opening h = c.serve_at-one.ensures.stands hubs opening (c.loop-at.invariant.stands hubs opening h)

pub returns-in-Budget-clause-run : goal.returns-in-Budget-clause-run
returns-in-Budget-clause-run g c = region_goes_then g.N.Machine (g.O.Ops.meaning c.args.ops.now) c.args.links.now c.loop-at.moves c.loop-at.pops c.serve_at-one.result.moves c.serve_at-one.result.pops c.outcome-in-Budget.result.moves c.outcome-in-Budget.result.pops c.args.self.now.pieces.items c.loop-at.self.pieces.items c.serve_at-one.new.self.pieces.items (sym c.outcome-in-Budget.ensures.1) (sym c.outcome-in-Budget.ensures.2) c.loop-at.invariant.run c.serve_at-one.ensures.run

pub returns-in-Budget-clause-stands : goal.returns-in-Budget-clause-stands
returns-in-Budget-clause-stands g c hubs opening h = c.serve_at-one.ensures.stands hubs opening (c.loop-at.invariant.stands hubs opening h)

pub loop-at-preserved : goal.loop-at-preserved
loop-at-preserved g c =
    let m = g.O.Ops.meaning c.args.ops.now in
    let i = c.loop-at.invariant in
    let s = c.serve_at-one.ensures in
    let before = i.most in
    let most = s.most in record {
      ends = s.ends;
      number = s.number ∙ i.number;
      run = region_goes_then g.N.Machine m c.args.links.now c.loop-at.moves c.loop-at.pops c.serve_at-one.result.moves c.serve_at-one.result.pops _ _ c.args.self.now.pieces.items c.loop-at.self.pieces.items c.serve_at-one.new.self.pieces.items refl refl i.run s.run;
      stands = λ hubs opening h. s.stands hubs opening (i.stands hubs opening h);
      most = omega (arith, before, most);
      count = i.count ∙ sym s.count;
      rests = rests_more g.N.Machine m c.loop-at.at c.loop-at.self.pieces.items c.serve_at-one.new.self.pieces.items (s.idle c.in-Idle.is) i.rests;
    }

pub returns-clause-idle : goal.returns-clause-idle
returns-clause-idle g c e =
    let m = g.O.Ops.meaning c.args.ops.now in
    let count = c.loop-at.invariant.count in
    let done : length c.loop-at.self.pieces.items ≤ c.loop-at.at = omega (arith, count, c.loop-at-test.false) in
    before_all (IsAtRest g.N.Machine m) c.loop-at.self.pieces.items c.loop-at.at done c.loop-at.invariant.rests
