use Rattle.std.proofs.Common.{List, ap, ◌∙◌}
use Rattle.std.specs.Vec.{with_item}
use Rattle.rsx_values.specs.declared.record.Run.{Run}
use Rattle.rsx_queued.specs.Input.{input_passed}
use Rattle.rsx_merging.proofs.Merged.{can_pass, lent_there, merged_all}
use Rattle.rsx_merging.proofs.merge_node.MergeNode.count_merged.Goals as goal

pub returns : goal.returns
returns g c =
    let n = c.args.self.now in
    let i = c.args.input in
    let q = c.index_mut.result.now in
    let h = can_pass n i c.args.items c.requires in
    ap (λ k. record { inputs = with_item n.inputs i (record { queue = k; tail = q.tail }); output = n.output; choices = c.push_times.new.self }) c.count_passed.ensures
    ∙ (ap (λ (l : List Run). record { inputs = with_item n.inputs i (input_passed q c.args.items); output = n.output; choices = l }) c.push_times.ensures.runs
    ∙ merged_all n i c.args.items q c.if-items-eq0.false (lent_there n.inputs.items i h.input q h.there c.index_mut.ensures.value))
