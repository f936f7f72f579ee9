use Rattle.std.proofs.Common.{◌≡◌, ◌∙◌, sym, nat_eq, true}
use Rattle.std.specs.Set.{is_member}
use Rattle.rsx_collections.proofs.Places.{key_there}
use Rattle.rsx_grouping.specs.Rows.{keys_of}
use Rattle.rsx_grouping.proofs.Tables.{lane_takes}
use Rattle.rsx_grouping.proofs.node.GroupByNodeTakingIn.take_item.Goals as goal

pub returns-in-Lane-clause-ok : goal.returns-in-Lane-clause-ok
returns-in-Lane-clause-ok g c =
    let node = c.args.self.now in
    let seen : is_member nat_eq (keys_of node.table) c.in-Ok.key ≡ true = key_there (keys_of node.table) c.in-Ok.key c.in-Lane.at c.in-Lane.ensures in
    lane_takes c.take_at.result (g.O.Ops.meaning c.args.ops.now) node.function node.stages.items node.table c.take_at.new.self node.main c.args.item c.in-Ok.key (sym c.is_coming.ensures ∙ c.if-not-is_coming.false) c.in-Ok.ensures.answer seen c.take_at.ensures.keys (c.take_at.ensures.ok node.stages.items c.in-Ok.key c.in-Lane.ensures)
