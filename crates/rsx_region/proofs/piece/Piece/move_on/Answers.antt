use Rattle.std.proofs.Common.{refl, sym, arith}
use Rattle.rsx_region.proofs.Runs.{goes_then}
use Rattle.rsx_region.proofs.piece.Piece.move_on.Goals as goal

pub returns-in-NoMemory-clause-run : goal.returns-in-NoMemory-clause-run
returns-in-NoMemory-clause-run g c = goes_then g.N.Machine (g.O.Ops.meaning c.args.ops.now) c.args.links.now c.loop-made.made c.loop-made.taken c.go_on-some.result.moves c.go_on-some.result.pops c.outcome.result.moves c.outcome.result.pops c.args.self.now c.loop-made.self c.go_on-some.new.self (sym c.outcome.ensures.1) (sym c.outcome.ensures.2) c.loop-made.invariant.run c.go_on-some.ensures.run

pub returns-in-NoMemory-clause-stands : goal.returns-in-NoMemory-clause-stands
returns-in-NoMemory-clause-stands g c hubs opening h = c.go_on-some.ensures.stands hubs opening (c.loop-made.invariant.stands hubs opening h)

pub returns-then-some-eq0-clause-run : goal.returns-then-some-eq0-clause-run
returns-then-some-eq0-clause-run g c = goes_then g.N.Machine (g.O.Ops.meaning c.args.ops.now) c.args.links.now c.loop-made.made c.loop-made.taken c.go_on-some.result.moves c.go_on-some.result.pops c.outcome-then-some-eq0.result.moves c.outcome-then-some-eq0.result.pops c.args.self.now c.loop-made.self c.go_on-some.new.self (sym c.outcome-then-some-eq0.ensures.1) (sym c.outcome-then-some-eq0.ensures.2) c.loop-made.invariant.run c.go_on-some.ensures.run

pub returns-then-some-eq0-clause-stands : goal.returns-then-some-eq0-clause-stands
returns-then-some-eq0-clause-stands g c hubs opening h = c.go_on-some.ensures.stands hubs opening (c.loop-made.invariant.stands hubs opening h)

pub loop-made-preserved-else-some-eq0 : goal.loop-made-preserved-else-some-eq0
loop-made-preserved-else-some-eq0 g c =
    let i = c.loop-made.invariant in
    let s = c.go_on-some.ensures in
    let before = i.most in
    let most = s.most in record {
      ends = s.ends;
      run = goes_then g.N.Machine (g.O.Ops.meaning c.args.ops.now) c.args.links.now c.loop-made.made c.loop-made.taken c.go_on-some.result.moves c.go_on-some.result.pops _ _ c.args.self.now c.loop-made.self c.go_on-some.new.self refl refl i.run s.run;
      stands = λ hubs opening h. s.stands hubs opening (i.stands hubs opening h);
      most = omega (arith, before, most);
      first = λ e. absurd (omega (arith, e, c.if-some-eq0.false));
    }

pub loop-made-preserved : goal.loop-made-preserved
loop-made-preserved g c =
    let i = c.loop-made.invariant in
    let s = c.go_on-some.ensures in
    let before = i.most in
    let most = s.most in record {
      ends = s.ends;
      run = goes_then g.N.Machine (g.O.Ops.meaning c.args.ops.now) c.args.links.now c.loop-made.made c.loop-made.taken c.go_on-some.result.moves c.go_on-some.result.pops _ _ c.args.self.now c.loop-made.self c.go_on-some.new.self refl refl i.run s.run;
      stands = λ hubs opening h. s.stands hubs opening (i.stands hubs opening h);
      most = omega (arith, before, most);
      first = λ e. let all = s.budget c.in-Budget.is in absurd (omega (arith, e, all, c.loop-made-test.true));
    }
