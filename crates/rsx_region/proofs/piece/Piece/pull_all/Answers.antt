use Rattle.std.proofs.Common.{refl, arith}
use Rattle.rsx_region.proofs.Runs.{goes_then}
use Rattle.rsx_region.proofs.piece.Piece.pull_all.Goals as goal

pub returns-then-some-eq0-clause-run : goal.returns-then-some-eq0-clause-run
returns-then-some-eq0-clause-run g c =
    let made = c.loop-made.made in
    let none = c.if-some-eq0.true in
    goes_then g.N.Machine (g.O.Ops.meaning c.args.ops.now) c.args.links.now made 0 c.pull_on-some.result 0 made 0 c.args.self.now c.loop-made.self c.pull_on-some.new.self (omega (arith, none)) refl c.loop-made.invariant.run c.pull_on-some.ensures.run

pub returns-then-some-eq0-clause-stands : goal.returns-then-some-eq0-clause-stands
returns-then-some-eq0-clause-stands g c hubs opening h = c.pull_on-some.ensures.stands hubs opening (c.loop-made.invariant.stands hubs opening h)

pub loop-made-preserved : goal.loop-made-preserved
loop-made-preserved g c =
    let i = c.loop-made.invariant in
    let s = c.pull_on-some.ensures in
    let before = i.most in
    let most = s.most in record {
      ends = s.ends;
      run = goes_then g.N.Machine (g.O.Ops.meaning c.args.ops.now) c.args.links.now c.loop-made.made 0 c.pull_on-some.result 0 _ 0 c.args.self.now c.loop-made.self c.pull_on-some.new.self refl refl i.run s.run;
      stands = λ hubs opening h. s.stands hubs opening (i.stands hubs opening h);
      most = omega (arith, before, most);
    }
