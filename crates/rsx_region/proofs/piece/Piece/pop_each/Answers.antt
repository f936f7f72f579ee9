use Rattle.std.proofs.Common.{◌≤◌, length, refl, sym, ◌∙◌, arith}
use Rattle.rsx_region.proofs.Rests.{left_all, left_more}
use Rattle.rsx_region.proofs.Runs.{goes_then, plus_none}
use Rattle.rsx_region.proofs.piece.Piece.pop_each.Goals as goal

pub returns-in-Err-clause-run : goal.returns-in-Err-clause-run
returns-in-Err-clause-run g c m =
    let n = c.loop-at.pops in
    goes_then g.N.Machine m c.args.links.now 0 n 0 0 0 c.outcome-in-Err.result.pops c.args.self.now c.loop-at.self c.pop_all.new.self refl (plus_none n c.outcome-in-Err.result.pops c.outcome-in-Err.ensures.2) (c.loop-at.invariant.run m) (c.in-Err.ensures.run m)

pub returns-in-Err-clause-stands : goal.returns-in-Err-clause-stands
returns-in-Err-clause-stands g c m hubs opening h = c.in-Err.ensures.stands m hubs opening (c.loop-at.invariant.stands m hubs opening h)

pub loop-at-preserved : goal.loop-at-preserved
loop-at-preserved g c =
    let n = c.loop-at.pops in
    let k = c.in-Ok.popped in
    let i = c.loop-at.invariant in
    let s = c.in-Ok.ensures in
    let before = i.within in
    let most = s.most in record {
      ends = s.ends;
      run = λ m. goes_then g.N.Machine m c.args.links.now 0 n 0 k 0 _ c.args.self.now c.loop-at.self c.pop_all.new.self refl refl (i.run m) (s.run m);
      stands = λ m j opening h. s.stands m j opening (i.stands m j opening h);
      count = i.count ∙ sym s.count;
      within = omega (arith, before, most);
      left = λ e. left_more g.N.Machine c.args.self.now c.loop-at.self c.pop_all.new.self c.loop-at.at (i.left (omega (arith, e))) (s.left (omega (arith, e)));
    }

pub returns-clause-idle : goal.returns-clause-idle
returns-clause-idle g c _ e =
    let count = c.loop-at.invariant.count in
    let pops = c.outcome-2.ensures.2 in
    let done : length c.loop-at.self.inlets.items ≤ c.loop-at.at = omega (arith, count, c.loop-at-test.false) in
    left_all g.N.Machine c.args.self.now c.loop-at.self c.loop-at.at done (c.loop-at.invariant.left (sym pops ∙ e))
