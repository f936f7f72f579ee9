use Rattle.std.proofs.Common.{◌∙◌, sym, ap}
use Rattle.std.specs.Vec.Iter.{into_iter_items}
use Rattle.rsx_model.proofs.Steps.{item_out}
use Rattle.rsx_values.specs.Group.{keyed_items, keys_after}
use Rattle.rsx_values.proofs.Keying.{keyed_item, keys_more}
use Rattle.rsx_model.proofs.operators.group.key_each.Goals as goal

pub loop-item-preserved : goal.loop-item-preserved
loop-item-preserved g c =
    let key = (g.O.Ops.meaning c.args.ops.now).keyed c.args.f in
    let x = c.in-Some.item in
    let k = c.in-Ok.key in
    let seen = c.loop-item.keys in
    let rest = into_iter_items c.next.new.self in
    let more = c.in_ok-key.ensures.keys ∙ ap (keys_after seen) c.in-Ok.is in
    let here = keyed_item key x seen c.place.new.keys k rest c.args.ending (sym c.in-Ok.is ∙ c.in_ok-key.ensures.placed) more in (
      item_out _ _ (k, x) _ _ _ c.loop-item.invariant.0 (ap (λ l. keyed_items key seen l c.args.ending) c.in-Some.ensures.steps.0 ∙ here) c.in_ok-push-in-Ok.ensures.items,
      keys_more c.loop-item.keyed.items c.push.new.self.items (k, x) seen c.place.new.keys c.loop-item.invariant.1 more c.in_ok-push-in-Ok.ensures.items,
    )
