use Rattle.std.proofs.Common.{arith}
use Rattle.rsx_rooted.specs.Leaves.{leaves_on}
use Rattle.rsx_rooted.proofs.Leaves.{all_leaves_le, leaves_Concat, leaves_Merge, leaves_MergeDelay, leaves_Zip, leaves_Latest, sum_front}
use Rattle.rsx_rooted.proofs.places.+leaves.Goals as goal

pub leaves_on-returns-in-Concat : goal.leaves_on-returns-in-Concat
leaves_on-returns-in-Concat g t c = rw (c.in-Concat.is, leaves_Concat c.args.hub, ← c.deref-in-Concat.ensures.value) c.leaves_on_all.ensures

pub leaves_on-returns-in-Merge : goal.leaves_on-returns-in-Merge
leaves_on-returns-in-Merge g t c = rw (c.in-Merge.is, leaves_Merge c.args.hub, ← c.deref-in-Merge.ensures.value) c.leaves_on_all-in-Merge.ensures

pub leaves_on-returns-in-MergeDelay : goal.leaves_on-returns-in-MergeDelay
leaves_on-returns-in-MergeDelay g t c = rw (c.in-MergeDelay.is, leaves_MergeDelay c.args.hub, ← c.deref-in-MergeDelay.ensures.value) c.leaves_on_all-in-MergeDelay.ensures

pub leaves_on-returns-in-Zip : goal.leaves_on-returns-in-Zip
leaves_on-returns-in-Zip g t c = rw (c.in-Zip.is, leaves_Zip c.args.hub, ← c.deref-in-Zip.ensures.value) c.leaves_on_all-in-Zip.ensures

pub leaves_on-returns-in-Latest : goal.leaves_on-returns-in-Latest
leaves_on-returns-in-Latest g t c = rw (c.in-Latest.is, leaves_Latest c.args.hub, ← c.deref-in-Latest.ensures.value) c.leaves_on_all-in-Latest.ensures

pub leaves_on_all-overflow_add-count : goal.leaves_on_all-overflow_add-count
leaves_on_all-overflow_add-count g t c =
    let inputs = c.args.inputs.now in
    let so_far = c.loop-input.invariant.0 in
    let next = sum_front (leaves_on c.args.hub) inputs c.loop-input.input-index c.input-item.result c.loop-input-test.true c.input-item.is in
    let most = all_leaves_le c.args.hub inputs in
    let few = c.requires in
    let here = c.leaves_on-count.ensures in
    search (arith, so_far, next, most, few, here)
