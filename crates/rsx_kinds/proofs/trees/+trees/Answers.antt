use Rattle.std.proofs.Common.{ℕ, ap, length, rules, subst, sym, ◌∙◌}
use Rattle.std.specs.Prelude.{IfOk}
use Rattle.rsx_kinds.specs.Prelude.{IsPlaced, differ, region_of}
use Rattle.std.proofs.lemmas.Int.{to_z-of_z}
use Rattle.rsx_kinds.proofs.Builds.{hub_read, items_if, leaf_if, range_if}
use Rattle.rsx_kinds.proofs.Plains.{plain_if}
use Rattle.rsx_kinds.proofs.Crossings.{crossed_built, crossed_if}
use Rattle.rsx_kinds.proofs.FlatMapDelays.{flat_delay_if}
use Rattle.rsx_kinds.proofs.FlatMaps.{flat_if}
use Rattle.rsx_kinds.proofs.GroupBys.{group_if}
use Rattle.rsx_kinds.proofs.Made.{in_front_built, several_over}
use Rattle.rsx_kinds.proofs.Placings.{crossed_placed, in_front_placed, placed_Concat, placed_Flat, placed_FlatDelay, placed_Group, placed_Hub, placed_Items, placed_Latest, placed_Merge, placed_MergeDelay, placed_On, placed_OnEager, placed_Plain, placed_Range, placed_Window, placed_Zip, placed_crossed}
use Rattle.rsx_kinds.proofs.PublishOn.{publish_on_if}
use Rattle.rsx_kinds.proofs.PublishOnEager.{publish_on_eager_if}
use Rattle.rsx_kinds.proofs.Rows.{split}
use Rattle.rsx_kinds.proofs.Several.{built_concat, built_latest, built_merge, built_merge_delay, built_zip, limits_Concat, limits_Latest, limits_Merge, limits_MergeDelay, limits_Zip}
use Rattle.rsx_kinds.proofs.Windows.{window_if}
use Rattle.rsx_kinds.proofs.trees.+trees.Goals as goal
use mir.Syntax.{w64}
use mir.Val.{SFits}

pub build-returns-in-Items-clause-built : goal.build-returns-in-Items-clause-built
build-returns-in-Items-clause-built g t c = items_if (g.O.Ops.meaning c.args.ops.now) c.args.hubs.now c.args.expr.now c.in-Items.items c.build_items.result c.in-Items.is c.build_items.ensures.built

pub build-returns-in-Range-clause-built : goal.build-returns-in-Range-clause-built
build-returns-in-Range-clause-built g t c =
    let f : SFits w64 c.in-Range.first = search rules in
    range_if (g.O.Ops.meaning c.args.ops.now) c.args.hubs.now c.args.expr.now c.in-Range.first c.in-Range.count c.new-node.result c.source.result
    c.in-Range.is (rw (to_z-of_z w64 c.in-Range.first f) at c.new-node.ensures.fresh) c.source.ensures.machine c.source.ensures.inputs

pub build-build_leaf-requires : goal.build-build_leaf-requires
build-build_leaf-requires g t c =
    let there = hub_read (length c.args.hubs.now) c.args.expr.now c.in-Hub.number c.in-Hub.is c.requires in
    (search rules, (search rules, (search rules, there)))

pub build-returns-in-Hub-clause-built : goal.build-returns-in-Hub-clause-built
build-returns-in-Hub-clause-built g t c = leaf_if (g.O.Ops.meaning c.args.ops.now) c.args.hubs.now c.args.expr.now c.in-Hub.number c.build_leaf.result c.in-Hub.is c.build_leaf.ensures.built

pub build-returns-in_ok-below-in-Plain-clause-built : goal.build-returns-in_ok-below-in-Plain-clause-built
build-returns-in_ok-below-in-Plain-clause-built g t c =
    plain_if (g.O.Ops.meaning c.args.ops.now) c.args.hubs.now c.args.expr.now c.in-Plain.stage c.in-Plain.input c.deref.result.now c.in_ok-below-in-Plain.below c.build_plain.result
    c.in-Plain.is c.deref.ensures c.requires c.in_ok-below-in-Plain.ensures.built c.build_plain.ensures

pub build-returns-in-Concat-clause-built : goal.build-returns-in-Concat-clause-built
build-returns-in-Concat-clause-built g t c =
    built_concat (g.O.Ops.meaning c.args.ops.now) c.args.hubs.now c.args.expr.now c.in-Concat.inputs c.deref-in-Concat.result.now c.build_over.result c.in-Concat.is c.deref-in-Concat.ensures.value c.build_over.ensures.built

pub build-build_over-requires : goal.build-build_over-requires
build-build_over-requires g t c κs within =
    let l = limits_Concat (length c.args.hubs.now) c.args.expr.now c.in-Concat.inputs c.deref-in-Concat.result.now c.in-Concat.is c.deref-in-Concat.ensures.value c.requires in
    (search (rules, l.smaller), (search rules, (search rules, (search rules, (search rules, (search rules, (l.within, (l.few.some, (l.few.most, l.faultless)))))))))

pub build-returns-in-Merge-clause-built : goal.build-returns-in-Merge-clause-built
build-returns-in-Merge-clause-built g t c =
    built_merge (g.O.Ops.meaning c.args.ops.now) c.args.hubs.now c.args.expr.now c.in-Merge.prefetch c.in-Merge.inputs c.deref-in-Merge.result.now c.build_over-in-Merge.result c.in-Merge.is c.deref-in-Merge.ensures.value c.build_over-in-Merge.ensures.built

pub build-returns-in-MergeDelay-clause-built : goal.build-returns-in-MergeDelay-clause-built
build-returns-in-MergeDelay-clause-built g t c =
    built_merge_delay (g.O.Ops.meaning c.args.ops.now) c.args.hubs.now c.args.expr.now c.in-MergeDelay.prefetch c.in-MergeDelay.inputs c.deref-in-MergeDelay.result.now c.build_over-in-MergeDelay.result c.in-MergeDelay.is c.deref-in-MergeDelay.ensures.value c.build_over-in-MergeDelay.ensures.built

pub build-build_over-requires-in-Merge : goal.build-build_over-requires-in-Merge
build-build_over-requires-in-Merge g t c κs within =
    let l = limits_Merge (length c.args.hubs.now) c.args.expr.now c.in-Merge.prefetch c.in-Merge.inputs c.deref-in-Merge.result.now c.in-Merge.is c.deref-in-Merge.ensures.value c.requires in
    (search (rules, l.smaller), (search rules, (search rules, (search rules, (search rules, (search rules, (l.within, (l.few.some, (l.few.most, l.faultless)))))))))

pub build-build_over-requires-in-MergeDelay : goal.build-build_over-requires-in-MergeDelay
build-build_over-requires-in-MergeDelay g t c κs within =
    let l = limits_MergeDelay (length c.args.hubs.now) c.args.expr.now c.in-MergeDelay.prefetch c.in-MergeDelay.inputs c.deref-in-MergeDelay.result.now c.in-MergeDelay.is c.deref-in-MergeDelay.ensures.value c.requires in
    (search (rules, l.smaller), (search rules, (search rules, (search rules, (search rules, (search rules, (l.within, (l.few.some, (l.few.most, l.faultless)))))))))

pub build-returns-in-Zip-clause-built : goal.build-returns-in-Zip-clause-built
build-returns-in-Zip-clause-built g t c =
    built_zip (g.O.Ops.meaning c.args.ops.now) c.args.hubs.now c.args.expr.now c.in-Zip.prefetch c.in-Zip.inputs c.deref-in-Zip.result.now c.build_over-in-Zip.result c.in-Zip.is c.deref-in-Zip.ensures.value c.build_over-in-Zip.ensures.built

pub build-build_over-requires-in-Zip : goal.build-build_over-requires-in-Zip
build-build_over-requires-in-Zip g t c κs within =
    let l = limits_Zip (length c.args.hubs.now) c.args.expr.now c.in-Zip.prefetch c.in-Zip.inputs c.deref-in-Zip.result.now c.in-Zip.is c.deref-in-Zip.ensures.value c.requires in
    (search (rules, l.smaller), (search rules, (search rules, (search rules, (search rules, (search rules, (l.within, (l.few.some, (l.few.most, l.faultless)))))))))

pub build-returns-in-Latest-clause-built : goal.build-returns-in-Latest-clause-built
build-returns-in-Latest-clause-built g t c =
    built_latest (g.O.Ops.meaning c.args.ops.now) c.args.hubs.now c.args.expr.now c.in-Latest.prefetch c.in-Latest.inputs c.deref-in-Latest.result.now c.build_over-in-Latest.result c.in-Latest.is c.deref-in-Latest.ensures.value c.build_over-in-Latest.ensures.built

pub build-build_over-requires-in-Latest : goal.build-build_over-requires-in-Latest
build-build_over-requires-in-Latest g t c κs within =
    let l = limits_Latest (length c.args.hubs.now) c.args.expr.now c.in-Latest.prefetch c.in-Latest.inputs c.deref-in-Latest.result.now c.in-Latest.is c.deref-in-Latest.ensures.value c.requires in
    (search (rules, l.smaller), (search rules, (search rules, (search rules, (search rules, (search rules, (l.within, (l.few.some, (l.few.most, l.faultless)))))))))

pub build-returns-in_ok-below-in-Group-clause-built : goal.build-returns-in_ok-below-in-Group-clause-built
build-returns-in_ok-below-in-Group-clause-built g t c =
    group_if (g.O.Ops.meaning c.args.ops.now) c.args.hubs.now c.args.expr.now c.in-Group.function c.in-Group.stages c.deref-in-Group-2.result.now c.in-Group.input c.deref-in-Group.result.now c.in_ok-below-in-Group.below c.group_by.result c.over_one.result
    c.in-Group.is c.deref-in-Group-2.ensures.value c.deref-in-Group.ensures c.in_ok-below-in-Group.ensures.built c.group_by.ensures c.over_one.ensures

pub build-returns-in_ok-below-in-Window-clause-built : goal.build-returns-in_ok-below-in-Window-clause-built
build-returns-in_ok-below-in-Window-clause-built g t c =
    window_if (g.O.Ops.meaning c.args.ops.now) c.args.hubs.now c.args.expr.now c.in-Window.size c.in-Window.stages c.deref-in-Window-2.result.now c.in-Window.input c.deref-in-Window.result.now c.in_ok-below-in-Window.below c.window.result c.over_one-in-Window.result
    c.in-Window.is c.deref-in-Window-2.ensures.value c.deref-in-Window.ensures c.in_ok-below-in-Window.ensures.built c.window.ensures c.over_one-in-Window.ensures

pub build-returns-in_ok-below-in-Flat-clause-built : goal.build-returns-in_ok-below-in-Flat-clause-built
build-returns-in_ok-below-in-Flat-clause-built g t c =
    flat_if (g.O.Ops.meaning c.args.ops.now) c.args.hubs.now (length c.args.hubs.now) c.args.expr.now c.in-Flat.function c.in-Flat.concurrency c.in-Flat.stages c.deref-in-Flat-2.result.now c.in-Flat.input c.deref-in-Flat.result.now c.in_ok-below-in-Flat.below c.flat_map.result c.over_one-in-Flat.result
    c.in-Flat.is c.deref-in-Flat-2.ensures.value c.deref-in-Flat.ensures c.requires c.in_ok-below-in-Flat.ensures.built c.flat_map.ensures c.over_one-in-Flat.ensures

pub build-returns-in_ok-below-in-FlatDelay-clause-built : goal.build-returns-in_ok-below-in-FlatDelay-clause-built
build-returns-in_ok-below-in-FlatDelay-clause-built g t c =
    flat_delay_if (g.O.Ops.meaning c.args.ops.now) c.args.hubs.now (length c.args.hubs.now) c.args.expr.now c.in-FlatDelay.function c.in-FlatDelay.concurrency c.in-FlatDelay.stages c.deref-in-FlatDelay-2.result.now c.in-FlatDelay.input c.deref-in-FlatDelay.result.now c.in_ok-below-in-FlatDelay.below c.flat_map_delay.result c.over_one-in-FlatDelay.result
    c.in-FlatDelay.is c.deref-in-FlatDelay-2.ensures.value c.deref-in-FlatDelay.ensures c.requires c.in_ok-below-in-FlatDelay.ensures.built c.flat_map_delay.ensures c.over_one-in-FlatDelay.ensures

pub build-returns-in_ok-below-in-On-clause-built : goal.build-returns-in_ok-below-in-On-clause-built
build-returns-in_ok-below-in-On-clause-built g t c =
    let m = g.O.Ops.meaning c.args.ops.now in
    let e = c.deref-in-On.result.now in
    publish_on_if m c.args.hubs.now (length c.args.hubs.now) c.args.expr.now c.in-On.worker c.in-On.prefetch c.in-On.input e c.in_ok-below-in-On.below c.publish_on.result c.over_one-in-On.result
    c.in-On.is c.deref-in-On.ensures c.requires (crossed_built m c.args.hubs.now e c.build-made.result _ c.in_ok-below-in-On.below c.build-made.ensures.built c.in_ok-below-in-On.ensures) c.publish_on.ensures c.over_one-in-On.ensures

pub build-returns-in_ok-below-in-OnEager-clause-built : goal.build-returns-in_ok-below-in-OnEager-clause-built
build-returns-in_ok-below-in-OnEager-clause-built g t c =
    let m = g.O.Ops.meaning c.args.ops.now in
    let e = c.deref-in-OnEager.result.now in
    publish_on_eager_if m c.args.hubs.now (length c.args.hubs.now) c.args.expr.now c.in-OnEager.worker c.in-OnEager.prefetch c.in-OnEager.input e c.in_ok-below-in-OnEager.below c.publish_on_eager.result c.over_one-in-OnEager.result
    c.in-OnEager.is c.deref-in-OnEager.ensures c.requires (crossed_built m c.args.hubs.now e c.build-made-in-OnEager.result _ c.in_ok-below-in-OnEager.below c.build-made-in-OnEager.ensures.built c.in_ok-below-in-OnEager.ensures) c.publish_on_eager.ensures c.over_one-in-OnEager.ensures

pub build_over-returns-clause-built : goal.build_over-returns-clause-built
build_over-returns-clause-built g t c =
    let m = g.O.Ops.meaning c.args.ops.now in
    several_over m c.args.hubs.now c.args.kind c.args.inputs.now c.in_ok-row.row c.several.result c.over.result c.requires.some c.in_ok-row.ensures.built c.several.ensures c.over.ensures

pub build_inputs-returns-in_ok-beside-in-Some-clause-built : goal.build_inputs-returns-in_ok-beside-in-Some-clause-built
build_inputs-returns-in_ok-beside-in-Some-clause-built g t c =
    let m = g.O.Ops.meaning c.args.ops.now in
    let k = c.in-Some.ensures.cases in
    in_front_built m c.args.hubs.now c.args.exprs.now c.in-Some.first.now c.in-Some.others.now c.crossed-below.result c.in_ok-beside-in-Some.beside c.in_front.result
    k.0 (crossed_if m c.args.hubs.now c.in-Some.first.now c.build-made.result _ c.crossed-below.result c.build-made.ensures.built c.crossed-below.ensures) c.in_ok-beside-in-Some.ensures.built c.in_front.ensures

pub build_over-build_inputs-requires : goal.build_over-build_inputs-requires
build_over-build_inputs-requires g t c κs within = (search rules, (search rules, (search rules, (search rules, (search rules, (search rules, c.requires.faultless))))))

pub build_inputs-build_inputs-requires : goal.build_inputs-build_inputs-requires
build_inputs-build_inputs-requires g t c κs within =
    let l = split (length c.args.hubs.now) c.args.exprs.now c.in-Some.first.now c.in-Some.others.now c.in-Some.ensures.cases.0 c.requires in
    (search (rules, l.fewer), (search rules, (search rules, (search rules, (search rules, (search rules, l.behind))))))

pub build_inputs-build-made-requires : goal.build_inputs-build-made-requires
build_inputs-build-made-requires g t c κs within =
    let l = split (length c.args.hubs.now) c.args.exprs.now c.in-Some.first.now c.in-Some.others.now c.in-Some.ensures.cases.0 c.requires in
    (search (rules, l.smaller), (search rules, (search rules, (search rules, (search rules, (search rules, l.here))))))

-- ---- which edges have a queue

pub build-returns-in-Items-clause-placed : goal.build-returns-in-Items-clause-placed
build-returns-in-Items-clause-placed g t c = placed_Items c.args.expr.now c.in-Items.items c.build_items.result c.in-Items.is c.build_items.ensures.alone

pub build-returns-in-Range-clause-placed : goal.build-returns-in-Range-clause-placed
build-returns-in-Range-clause-placed g t c = placed_Range c.args.expr.now c.in-Range.first c.in-Range.count c.source.result c.in-Range.is c.source.ensures.alone

pub build-returns-in-Hub-clause-placed : goal.build-returns-in-Hub-clause-placed
build-returns-in-Hub-clause-placed g t c = placed_Hub c.args.expr.now c.in-Hub.number c.build_leaf.result c.in-Hub.is c.build_leaf.ensures.alone

pub build-returns-in_ok-below-in-Plain-clause-placed : goal.build-returns-in_ok-below-in-Plain-clause-placed
build-returns-in_ok-below-in-Plain-clause-placed g t c =
    placed_Plain c.args.expr.now c.in-Plain.stage c.in-Plain.input c.deref.result.now c.in_ok-below-in-Plain.below c.build_plain.result c.in-Plain.is c.deref.ensures c.in_ok-below-in-Plain.ensures.placed c.build_plain.ensures

pub build-returns-in-Concat-clause-placed : goal.build-returns-in-Concat-clause-placed
build-returns-in-Concat-clause-placed g t c = placed_Concat c.args.expr.now c.in-Concat.inputs c.deref-in-Concat.result.now c.build_over.result c.in-Concat.is c.deref-in-Concat.ensures.value c.build_over.ensures.placed

pub build-returns-in-Merge-clause-placed : goal.build-returns-in-Merge-clause-placed
build-returns-in-Merge-clause-placed g t c =
    placed_Merge c.args.expr.now c.in-Merge.prefetch c.in-Merge.inputs c.deref-in-Merge.result.now c.build_over-in-Merge.result c.in-Merge.is c.deref-in-Merge.ensures.value c.build_over-in-Merge.ensures.placed

pub build-returns-in-MergeDelay-clause-placed : goal.build-returns-in-MergeDelay-clause-placed
build-returns-in-MergeDelay-clause-placed g t c =
    placed_MergeDelay c.args.expr.now c.in-MergeDelay.prefetch c.in-MergeDelay.inputs c.deref-in-MergeDelay.result.now c.build_over-in-MergeDelay.result c.in-MergeDelay.is c.deref-in-MergeDelay.ensures.value c.build_over-in-MergeDelay.ensures.placed

pub build-returns-in-Zip-clause-placed : goal.build-returns-in-Zip-clause-placed
build-returns-in-Zip-clause-placed g t c =
    placed_Zip c.args.expr.now c.in-Zip.prefetch c.in-Zip.inputs c.deref-in-Zip.result.now c.build_over-in-Zip.result c.in-Zip.is c.deref-in-Zip.ensures.value c.build_over-in-Zip.ensures.placed

pub build-returns-in-Latest-clause-placed : goal.build-returns-in-Latest-clause-placed
build-returns-in-Latest-clause-placed g t c =
    placed_Latest c.args.expr.now c.in-Latest.prefetch c.in-Latest.inputs c.deref-in-Latest.result.now c.build_over-in-Latest.result c.in-Latest.is c.deref-in-Latest.ensures.value c.build_over-in-Latest.ensures.placed

pub build-returns-in_ok-below-in-Group-clause-placed : goal.build-returns-in_ok-below-in-Group-clause-placed
build-returns-in_ok-below-in-Group-clause-placed g t c =
    placed_Group c.args.expr.now c.in-Group.function c.in-Group.stages c.in-Group.input c.deref-in-Group.result.now c.group_by.result c.in_ok-below-in-Group.below c.over_one.result
    c.in-Group.is c.deref-in-Group.ensures c.in_ok-below-in-Group.ensures.placed c.over_one.ensures

pub build-returns-in_ok-below-in-Window-clause-placed : goal.build-returns-in_ok-below-in-Window-clause-placed
build-returns-in_ok-below-in-Window-clause-placed g t c =
    placed_Window c.args.expr.now c.in-Window.size c.in-Window.stages c.in-Window.input c.deref-in-Window.result.now c.window.result c.in_ok-below-in-Window.below c.over_one-in-Window.result
    c.in-Window.is c.deref-in-Window.ensures c.in_ok-below-in-Window.ensures.placed c.over_one-in-Window.ensures

pub build-returns-in_ok-below-in-Flat-clause-placed : goal.build-returns-in_ok-below-in-Flat-clause-placed
build-returns-in_ok-below-in-Flat-clause-placed g t c =
    placed_Flat c.args.expr.now c.in-Flat.function c.in-Flat.concurrency c.in-Flat.stages c.in-Flat.input c.deref-in-Flat.result.now c.flat_map.result c.in_ok-below-in-Flat.below c.over_one-in-Flat.result
    c.in-Flat.is c.deref-in-Flat.ensures c.in_ok-below-in-Flat.ensures.placed c.over_one-in-Flat.ensures

pub build-returns-in_ok-below-in-FlatDelay-clause-placed : goal.build-returns-in_ok-below-in-FlatDelay-clause-placed
build-returns-in_ok-below-in-FlatDelay-clause-placed g t c =
    placed_FlatDelay c.args.expr.now c.in-FlatDelay.function c.in-FlatDelay.concurrency c.in-FlatDelay.stages c.in-FlatDelay.input c.deref-in-FlatDelay.result.now c.flat_map_delay.result c.in_ok-below-in-FlatDelay.below c.over_one-in-FlatDelay.result
    c.in-FlatDelay.is c.deref-in-FlatDelay.ensures c.in_ok-below-in-FlatDelay.ensures.placed c.over_one-in-FlatDelay.ensures

pub build-returns-in_ok-below-in-On-clause-placed : goal.build-returns-in_ok-below-in-On-clause-placed
build-returns-in_ok-below-in-On-clause-placed g t c =
    let e = c.deref-in-On.result.now in
    let P : ℕ → Type 0 = λ r. IsPlaced e (differ c.in-On.worker r) c.in_ok-below-in-On.below in
    let region = c.region_of.ensures ∙ ap region_of (c.deref-in-On-2.ensures ∙ sym c.deref-in-On.ensures) in
    let below = subst P region (placed_crossed e c.build-made.result (differ c.in-On.worker c.region_of.result) c.in_ok-below-in-On.below c.build-made.ensures.placed c.in_ok-below-in-On.ensures) in
    placed_On c.args.expr.now c.in-On.worker c.in-On.prefetch c.in-On.input e c.publish_on.result c.in_ok-below-in-On.below c.over_one-in-On.result c.in-On.is c.deref-in-On.ensures below c.over_one-in-On.ensures

pub build-returns-in_ok-below-in-OnEager-clause-placed : goal.build-returns-in_ok-below-in-OnEager-clause-placed
build-returns-in_ok-below-in-OnEager-clause-placed g t c =
    let e = c.deref-in-OnEager.result.now in
    let P : ℕ → Type 0 = λ r. IsPlaced e (differ c.in-OnEager.worker r) c.in_ok-below-in-OnEager.below in
    let region = c.region_of-in-OnEager.ensures ∙ ap region_of (c.deref-in-OnEager-2.ensures ∙ sym c.deref-in-OnEager.ensures) in
    let below = subst P region (placed_crossed e c.build-made-in-OnEager.result (differ c.in-OnEager.worker c.region_of-in-OnEager.result) c.in_ok-below-in-OnEager.below c.build-made-in-OnEager.ensures.placed c.in_ok-below-in-OnEager.ensures) in
    placed_OnEager c.args.expr.now c.in-OnEager.worker c.in-OnEager.prefetch c.in-OnEager.input e c.publish_on_eager.result c.in_ok-below-in-OnEager.below c.over_one-in-OnEager.result c.in-OnEager.is c.deref-in-OnEager.ensures below c.over_one-in-OnEager.ensures

pub build_inputs-returns-in_ok-beside-in-Some-clause-placed : goal.build_inputs-returns-in_ok-beside-in-Some-clause-placed
build_inputs-returns-in_ok-beside-in-Some-clause-placed g t c =
    let k = c.in-Some.ensures.cases in
    let x = c.in-Some.first.now in
    let P : ℕ → Type 0 = λ r. IfOk c.crossed-below.result (λ t. IsPlaced x (differ c.args.region r) t) in
    let first = subst P c.region_of.ensures (crossed_placed x c.build-made.result c.crossed-below.result (differ c.args.region c.region_of.result) c.build-made.ensures.placed c.crossed-below.ensures) in
    in_front_placed c.args.region c.args.exprs.now x c.in-Some.others.now c.crossed-below.result c.in_ok-beside-in-Some.beside c.in_front.result k.0 first c.in_ok-beside-in-Some.ensures.placed c.in_front.ensures
