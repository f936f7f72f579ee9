use Rattle.std.proofs.Common.{length, ap, arith}
use Rattle.rsx_combining.proofs.Gives.{stands_before, put_before}
use Rattle.rsx_combining.proofs.latest_items.LatestItems.put.Goals as goal

pub index_mut-requires : goal.index_mut-requires
index_mut-requires g c =
    let p = stands_before c.self.inside.before.items c.args.self.now c.self.inside.all.items c.args.at c.self.view_is c.self.invariant.0 c.requires.there c.requires.no_row in
    let same = ap length p.0 in
    let l = c.self.inside.before.ok.0 in
    let there = c.requires.there in
    omega (arith, same, l, there)

pub returns : goal.returns
returns g c = put_before c.self.inside.before.items c.args.self.now c.self.inside.all.items c.args.at c.args.item (stands_before c.self.inside.before.items c.args.self.now c.self.inside.all.items c.args.at c.self.view_is c.self.invariant.0 c.requires.there c.requires.no_row)
