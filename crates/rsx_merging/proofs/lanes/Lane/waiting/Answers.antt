use Rattle.std.proofs.Common.{ap, arith}
use Rattle.rsx_merging.specs.Lanes.{items_in}
use Rattle.rsx_merging.proofs.LaneItems.{items_left}
use Rattle.rsx_merging.proofs.lanes.Lane.waiting.Goals as goal

pub returns : goal.returns
returns g c =
    let kept = c.self.inside.reversed in
    let ok = kept.ok in
    let long = c.len.ensures in
    let left = items_left kept.items c.self.inside.ending in
    let seen = ap (λ v. items_in v.1) c.self.view_is in
    omega (arith, ok, long, left, seen)
