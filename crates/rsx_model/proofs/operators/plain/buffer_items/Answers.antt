use Rattle.std.proofs.Common.{◌≤◌, ◌<◌, ◌+◌, ◌++◌, ◌∷◌, [], ◌∙◌, ap, length, arith}
use Rattle.std.specs.Vec.Iter.{into_iter_items}
use Rattle.rsx_types.specs.Plain.{buffered_items}
use Rattle.rsx_model.proofs.Steps.{item_out, none_out, buffered_full, buffered_more}
use Rattle.rsx_model.proofs.operators.plain.buffer_items.Goals as goal

pub loop-x-preserved-then-len-size : goal.loop-x-preserved-then-len-size
loop-x-preserved-then-len-size g c =
    let list = (g.O.Ops.meaning c.args.ops.now).list_of in
    let n = c.args.size in
    let started = c.loop-x.started.items in
    let rest = into_iter_items c.next.new.self in
    let grown = c.in_ok-push.ensures.items in
    let enough : n ≤ length started + 1 = omega (arith, c.len.ensures, c.if-len-size.true, c.in_ok-push.ensures.len) in
    let here = ap (λ l. buffered_items list n started l c.args.ending) c.in-Some.ensures.steps.0 ∙ buffered_full list n started c.in-Some.x rest c.args.ending enough in
    let answer = c.in_ok-list.ensures.answer ∙ ap list (c.as_slice.ensures.value ∙ grown) in
    rw c.clear.ensures.items (item_out _ _ _ _ _ _ c.loop-x.invariant here (c.in_ok-push-2.ensures.items ∙ ap (λ y. c.loop-x.out.items ++ y ∷ []) answer))

pub loop-x-preserved : goal.loop-x-preserved
loop-x-preserved g c =
    let list = (g.O.Ops.meaning c.args.ops.now).list_of in
    let n = c.args.size in
    let started = c.loop-x.started.items in
    let rest = into_iter_items c.next.new.self in
    let few : length started + 1 < n = omega (arith, c.len.ensures, c.if-len-size.false, c.in_ok-push.ensures.len) in
    let here = ap (λ l. buffered_items list n started l c.args.ending) c.in-Some.ensures.steps.0 ∙ buffered_more list n started c.in-Some.x rest c.args.ending few in
    rw c.in_ok-push.ensures.items (none_out _ _ _ _ c.loop-x.invariant here)
