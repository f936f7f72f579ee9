use Rattle.std.proofs.Common.{length, ap}
use Rattle.rsx_combining.proofs.Gives.{all_had}
use Rattle.rsx_combining.proofs.latest_items.LatestItems.had_row.Goals as goal

pub returns : goal.returns
returns g c =
    let all = c.self.inside.all in
    all_had c.self.inside.before.items c.args.self.now all.items (length c.as_slice.result.now) c.is_empty.result c.self.view_is c.self.invariant.0 (ap length c.as_slice.ensures.value) c.is_empty.ensures
