use Rattle.std.proofs.Common.{◌≡◌, ◌<◌, length, rules}
use Rattle.rsx_combining.proofs.InPlace.{one_row, last_of_all}
use Rattle.rsx_combining.proofs.latest_rows.VecLatestRows.put_rows.Goals as goal

pub loop-place-preserved : goal.loop-place-preserved
loop-place-preserved g c =
    let loop = c.loop-place in
    let within : loop.place < length c.args.items.now.items = search rules in
    one_row (g.O.Ops.meaning c.args.ops.now).row_of c.args.self.now.items c.args.at c.args.items.now.items loop.place loop.self.items loop.items.items c.index_mut-in-loop-place.result.now c.swap.new.x c.swap.new.y c.in-Ok.row loop.invariant c.requires.there within
    c.index_mut-in-loop-place.ensures.value c.swap.ensures.x_after (search rules)

pub returns-clause-last : goal.returns-clause-last
returns-clause-last g c =
    let loop = c.loop-place in
    let done : loop.place ≡ length c.args.items.now.items = search rules in
    last_of_all (g.O.Ops.meaning c.args.ops.now).row_of c.args.self.now.items c.args.at c.args.items.now.items loop.place loop.self.items loop.items.items c.remove.result loop.invariant done c.requires.some c.remove.ensures.value
