use Rattle.std.proofs.Common.{sym, ◌∙◌}
use Rattle.rsx_sources.specs.Heads.{head_of}
use Rattle.rsx_grouping.specs.Rest.{keyed_value}
use Rattle.rsx_grouping.proofs.Copied.{with_main, without_main}
use Rattle.rsx_grouping.proofs.node.GroupByNodeTakingIn.left.Goals as goal

pub returns-then-is_taken : goal.returns-then-is_taken
returns-then-is_taken g c =
    let m = g.O.Ops.meaning c.args.ops.now in
    let n = c.args.self.now in
    let w = keyed_value c.in_ok-keyed.keyed in
    without_main m n.function n.stages.items c.deref.result.now n.table n.main (head_of c.args.incoming.now) c.first_items.result.now c.items_before-items.result.now c.first_ending.result c.ending_behind-ending.result w c.in_ok-inputs.inputs.items
    c.first_items.ensures c.first_ending.ensures c.items_before-items.ensures c.ending_behind-ending.ensures c.in_ok-keyed.ensures.items
    c.deref.ensures.value c.in_ok-inputs.ensures (sym c.is_taken.ensures ∙ c.if-is_taken.true)

pub returns : goal.returns
returns g c =
    let m = g.O.Ops.meaning c.args.ops.now in
    let n = c.args.self.now in
    let w = keyed_value c.in_ok-keyed.keyed in
    with_main m n.function n.stages.items c.deref.result.now n.table n.main (head_of c.args.incoming.now) c.first_items.result.now c.items_before-items.result.now c.first_ending.result c.ending_behind-ending.result w c.in_ok-inputs.inputs.items c.push.new.self.items c.in_ok-new.field-0 c.new-main.result c.new.result.items
    c.first_items.ensures c.first_ending.ensures c.items_before-items.ensures c.ending_behind-ending.ensures c.in_ok-keyed.ensures.items
    c.deref.ensures.value c.in_ok-inputs.ensures c.new.ensures.items c.new-main.ensures.items c.new-main.ensures.ending c.in_ok-new.ensures c.in_ok-push.ensures.items (sym c.is_taken.ensures ∙ c.if-is_taken.false)
