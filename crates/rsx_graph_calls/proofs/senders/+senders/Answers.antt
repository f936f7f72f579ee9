use Rattle.std.proofs.Common.{◌∙◌, ap, rules, sym}
use Rattle.rsx_model.specs.Shape.{listed_below}
use Rattle.rsx_types.proofs.Lists.{drop_read}
use Rattle.rsx_graph_calls.proofs.Sent.{added_all, added_next, added_one_below, input_smaller, on_ok}
use Rattle.rsx_graph_calls.proofs.senders.+senders.Goals as goal

pub add_senders-returns-in-One : goal.add_senders-returns-in-One
add_senders-returns-in-One g t c = on_ok c.add_senders.result c.add_senders.ensures
    (added_one_below c.args.senders.now.items c.add_sender.new.senders.items c.add_senders.new.senders.items c.args.receiver c.region_of-region.result c.args.expr.now c.in-One.input.now
    (sym (ap listed_below c.in-One.is) ∙ c.below_of.ensures) c.region_of-region.ensures c.in_ok-add_sender.ensures)

pub add_senders-returns-in-Inputs : goal.add_senders-returns-in-Inputs
add_senders-returns-in-Inputs g t c = on_ok c.add_all_senders.result c.add_all_senders.ensures
    (added_all c.args.senders.now.items c.add_sender.new.senders.items c.add_all_senders.new.senders.items c.args.receiver c.region_of-region.result c.args.expr.now c.in-Inputs.inputs.now
    (sym (ap listed_below c.in-Inputs.is) ∙ c.below_of.ensures) c.region_of-region.ensures c.in_ok-add_sender.ensures)

pub add_all_senders-loop-input-preserved : goal.add_all_senders-loop-input-preserved
add_all_senders-loop-input-preserved g t c =
    let here = drop_read c.args.inputs.now c.loop-input.input-index c.input-item.result c.loop-input-test.true c.input-item.is in
    added_next c.loop-input.senders.items c.add_senders.new.senders.items _ c.args.receiver c.args.inputs.now c.loop-input.input-index c.input-item.result here c.loop-input.invariant c.in_ok-add_senders.ensures

pub add_all_senders-add_senders-requires : goal.add_all_senders-add_senders-requires
add_all_senders-add_senders-requires g t c κs within = (search (rules, input_smaller c.args.inputs.now c.loop-input.input-index c.input-item.result c.loop-input-test.true c.input-item.is), search rules)
