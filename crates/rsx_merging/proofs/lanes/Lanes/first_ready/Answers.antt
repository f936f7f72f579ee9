use Rattle.std.proofs.Common.{◌≡◌, length, ap, sym, arith}
use Rattle.rsx_merging.proofs.Places.{none_ready}
use Rattle.rsx_merging.proofs.lanes.Lanes.first_ready.Goals as goal

pub returns-clause-none : goal.returns-clause-none
returns-clause-none g c =
    let same : length c.args.self.now ≡ length c.self.inside.list.items = ap length (sym c.self.view_is) in
    none_ready c.args.self.now c.args.items (λ k i lt at. c.loop-at.invariant k i (omega (arith, same)) at)
