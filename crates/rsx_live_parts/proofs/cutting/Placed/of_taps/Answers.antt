use Rattle.std.proofs.Common.{ℕ, ap, ◌∙◌, length, ◌<◌, ◌+◌}
use Rattle.rsx_types.specs.declared.names.SubId.{SubId}
use Rattle.rsx_live_parts.specs.Cursors.{first_of, region_in, root_at, root_in}
use Rattle.rsx_live_parts.specs.declared.cutting.Cursor.{Cursor}
use Rattle.rsx_live_parts.proofs.Sweeps.{mapped_more}
use Rattle.rsx_live_parts.proofs.cutting.Placed.of_taps.Goals as goal

pub loop-place-preserved : goal.loop-place-preserved
loop-place-preserved g c =
    let i = c.loop-place.invariant in
    let taps = c.args.taps.now in
    let roots = c.args.roots.now in
    let tap = c.index-taps-place.result in
    let less : c.loop-place.place < length taps = c.loop-place-test.true in
    let pushed = c.in_ok-push.ensures in
    let root = c.root_region.ensures ∙ ap (λ (s : SubId). root_at roots s.0) c.sub-tree.ensures in
    record {
      count = c.push.ensures.count ∙ i.count;
      beside = pushed.beside ∙ ap (λ k. k + 1) i.beside;
      places = mapped_more (root_in c.args.count roots) taps c.loop-place.place tap c.loop-place.placed.places.items _ _ less c.index-taps-place.is i.places pushed.places (ap (λ (k : ℕ). region_in k c.root_region.result) i.count ∙ ap (region_in c.args.count) root);
      cursors = mapped_more first_of taps c.loop-place.place tap c.loop-place.placed.cursors.items _ _ less c.index-taps-place.is i.cursors pushed.cursors (ap (λ (s : SubId). let k : Cursor = record { tree = s.0; passed = 0 } in k) c.sub-tree.ensures);
    }
