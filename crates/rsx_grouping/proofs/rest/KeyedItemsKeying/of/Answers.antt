use Rattle.std.proofs.Common.{[], ◌∷◌, ◌++◌, ◌∙◌, ap}
use Rattle.rsx_values.specs.Group.{keyed_items}
use Rattle.rsx_grouping.proofs.Copies.{key_copied}
use Rattle.rsx_grouping.proofs.rest.KeyedItemsKeying.of.Goals as goal

pub loop-item-preserved : goal.loop-item-preserved
loop-item-preserved g c =
    let key = (g.O.Ops.meaning c.args.ops.now).keyed c.args.function in
    let x = c.item-item.result in
    key_copied key c.args.keys c.loop-item.seen c.place.new.self c.loop-item.keyed.items c.push.new.self.items c.args.items.now c.loop-item.item-index c.in-Ok.key x c.args.ending
    (keyed_items key c.args.keys c.args.items.now c.args.ending) c.in_ok-key.field-0 c.loop-item-test.true c.item-item.is c.in_ok-key.ensures.placed c.in_ok-key.ensures.keys c.in-Ok.is
    (c.in_ok-push-in-Ok.ensures.items ∙ ap (λ y. c.loop-item.keyed.items ++ (c.in-Ok.key, y) ∷ []) c.in_ok-copy-in-Ok.ensures.answer) c.loop-item.invariant.0 c.loop-item.invariant.1
