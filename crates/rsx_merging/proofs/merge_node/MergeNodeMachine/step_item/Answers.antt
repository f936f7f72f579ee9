use Rattle.std.proofs.Common.{◌≡◌, true, refl, rules}
use Rattle.rsx_types.specs.declared.signal.Signal.TheVariants.{Next}
use Rattle.rsx_merging.specs.Merge.{merge_picks}
use Rattle.rsx_merging.proofs.Chosen.{is_pick, item_gone}
use Rattle.rsx_merging.proofs.merge_node.MergeNodeMachine.step_item.Goals as goal

pub returns-clause-out : goal.returns-clause-out
returns-clause-out g c =
    let n = c.args.self.now in
    let i = c.in-Some.input in
    let picks : merge_picks n i c.args.asked c.args.sent ≡ true = c.in-Some.ensures.picks in
    let p = is_pick n.output n.inputs.items i c.args.asked c.args.sent c.take.result c.in-Some-Next.field-0 (Next c.in-Some-Next.item) c.index_mut.result.now c.take.new.self picks c.index_mut.ensures.value c.take.ensures.signal c.take.ensures.state c.take.ensures.value c.in-Some-Next.is c.in-Some-Next.field-0-is in
    item_gone (g.O.Ops.meaning c.args.ops.now) n _ i c.args.asked c.args.sent c.in-Some-Next.item c.index_mut.result.now c.take.new.self picks p refl refl (search rules)
