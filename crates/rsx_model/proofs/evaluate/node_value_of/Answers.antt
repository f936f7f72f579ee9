use Rattle.std.proofs.Common.{◌≡◌, ◌<◌, ◌+◌, length, Some, slice_get, refl, sym, ap, ◌∙◌, arith, rules}
use Rattle.std.proofs.lemmas.Int.{to_z-of_z}
use Rattle.std.proofs.lemmas.Option.{slice_get_read}
use mir.Val.{SFits}
use mir.Syntax.{w64}
use Rattle.rsx_model.specs.declared.expr.Expr.TheViews.{outs-Items, outs-Range, outs-Hub, outs-Plain, outs-Concat, outs-Merge, outs-MergeDelay, outs-Zip, outs-Latest, outs-Group, outs-Window, outs-Flat, outs-FlatDelay, outs-On, outs-OnEager}
use Rattle.rsx_model.specs.Check.{first_fault}
use Rattle.rsx_model.specs.Eval.{environment, meant}
use Rattle.rsx_model.specs.Shape.{leaves}
use Rattle.rsx_model.proofs.Unfold.{value_out, value_Concat, value_Merge, value_MergeDelay, value_Zip, value_Latest, leaves_Hub, hub_there, joined_there}
use Rattle.rsx_model.proofs.evaluate.node_value_of.Goals as goal

pub returns-in-Items : goal.returns-in-Items
returns-in-Items g c =
    let note : slice_get c.args.notes.now c.args.at ≡ Some c.index-notes-at.result = slice_get_read c.args.notes.now (length c.args.notes.now) c.args.at c.index-notes-at.result refl c.requires.noted c.index-notes-at.is in
    rw (value_out, c.in-Items.is, outs-Items, note, ← c.deref.ensures.value) (c.if_quiet.ensures _ c.items_of.ensures)

pub returns-in-Range : goal.returns-in-Range
returns-in-Range g c =
    let note : slice_get c.args.notes.now c.args.at ≡ Some c.index-notes-at.result = slice_get_read c.args.notes.now (length c.args.notes.now) c.args.at c.index-notes-at.result refl c.requires.noted c.index-notes-at.is in
    let f : SFits w64 c.in-Range.first = search rules in
    let e = to_z-of_z w64 c.in-Range.first f in
    rw (value_out, c.in-Range.is, outs-Range, note) (c.if_quiet-in-Range.ensures _ (rw e at c.range_of.ensures))

pub returns-in-Hub : goal.returns-in-Hub
returns-in-Hub g c =
    let w = environment (g.O.Ops.meaning c.args.ops.now) c.args.hubs.now c.args.joins.now c.args.notes.now in
    let note : slice_get c.args.notes.now c.args.at ≡ Some c.index-notes-at.result = slice_get_read c.args.notes.now (length c.args.notes.now) c.args.at c.index-notes-at.result refl c.requires.noted c.index-notes-at.is in
    let there : c.in-Hub.hub.0 < length c.args.hubs.now = hub_there g.row.O-Item.Denot (length c.args.hubs.now) c.in-Hub.hub (ap (first_fault (length c.args.hubs.now)) (sym c.in-Hub.is) ∙ c.requires.sound) in
    let joined : c.args.leaf < length c.args.joins.now = omega (arith, c.requires.joined, leaves_Hub g.row.O-Item.Denot c.in-Hub.hub, ap leaves c.in-Hub.is) in
    let hub : slice_get c.args.hubs.now c.in-Hub.hub.0 ≡ Some c.index-hubs-hub.result = slice_get_read c.args.hubs.now (length c.args.hubs.now) c.in-Hub.hub.0 c.index-hubs-hub.result refl there c.index-hubs-hub.is in
    rw (value_out, c.in-Hub.is, outs-Hub, note, joined_there w c.in-Hub.hub.0 c.args.leaf c.index-hubs-hub.result hub joined) (c.if_quiet-in-Hub.ensures _ c.behind_of.ensures)

pub returns-in-Plain : goal.returns-in-Plain
returns-in-Plain g c =
    let w = environment (g.O.Ops.meaning c.args.ops.now) c.args.hubs.now c.args.joins.now c.args.notes.now in
    let note : slice_get c.args.notes.now c.args.at ≡ Some c.index-notes-at.result = slice_get_read c.args.notes.now (length c.args.notes.now) c.args.at c.index-notes-at.result refl c.requires.noted c.index-notes-at.is in
    let below = rw (c.in-Plain.is, outs-Plain) at c.requires.below in
    rw (value_out, c.in-Plain.is, outs-Plain, note) (c.if_quiet-in-Plain.ensures _ (c.plain_of.ensures ((meant w c.in-Plain.field-1.value).value (c.args.at + 1) c.args.leaf) below))

pub returns-in-Concat : goal.returns-in-Concat
returns-in-Concat g c =
    let note : slice_get c.args.notes.now c.args.at ≡ Some c.index-notes-at.result = slice_get_read c.args.notes.now (length c.args.notes.now) c.args.at c.index-notes-at.result refl c.requires.noted c.index-notes-at.is in
    let below = rw (c.in-Concat.is, outs-Concat) at c.requires.below in
    rw (c.in-Concat.is, value_Concat, note) (c.if_quiet-in-Concat.ensures _ (c.concat_of.ensures _ below))

pub returns-in-Merge : goal.returns-in-Merge
returns-in-Merge g c =
    let note : slice_get c.args.notes.now c.args.at ≡ Some c.index-notes-at.result = slice_get_read c.args.notes.now (length c.args.notes.now) c.args.at c.index-notes-at.result refl c.requires.noted c.index-notes-at.is in
    let below = rw (c.in-Merge.is, outs-Merge) at c.requires.below in
    rw (c.in-Merge.is, value_Merge, note) (c.merge_of.ensures _ below)

pub returns-in-MergeDelay : goal.returns-in-MergeDelay
returns-in-MergeDelay g c =
    let note : slice_get c.args.notes.now c.args.at ≡ Some c.index-notes-at.result = slice_get_read c.args.notes.now (length c.args.notes.now) c.args.at c.index-notes-at.result refl c.requires.noted c.index-notes-at.is in
    let below = rw (c.in-MergeDelay.is, outs-MergeDelay) at c.requires.below in
    rw (c.in-MergeDelay.is, value_MergeDelay, note) (c.merge_delay_of.ensures _ below)

pub returns-in-Zip : goal.returns-in-Zip
returns-in-Zip g c =
    let note : slice_get c.args.notes.now c.args.at ≡ Some c.index-notes-at.result = slice_get_read c.args.notes.now (length c.args.notes.now) c.args.at c.index-notes-at.result refl c.requires.noted c.index-notes-at.is in
    let below = rw (c.in-Zip.is, outs-Zip) at c.requires.below in
    rw (c.in-Zip.is, value_Zip, note) (c.zip_of.ensures _ below)

pub returns-in-Latest : goal.returns-in-Latest
returns-in-Latest g c =
    let note : slice_get c.args.notes.now c.args.at ≡ Some c.index-notes-at.result = slice_get_read c.args.notes.now (length c.args.notes.now) c.args.at c.index-notes-at.result refl c.requires.noted c.index-notes-at.is in
    let below = rw (c.in-Latest.is, outs-Latest) at c.requires.below in
    rw (c.in-Latest.is, value_Latest, note) (c.latest_of.ensures _ below)

pub returns-in-Group : goal.returns-in-Group
returns-in-Group g c =
    let w = environment (g.O.Ops.meaning c.args.ops.now) c.args.hubs.now c.args.joins.now c.args.notes.now in
    let note : slice_get c.args.notes.now c.args.at ≡ Some c.index-notes-at.result = slice_get_read c.args.notes.now (length c.args.notes.now) c.args.at c.index-notes-at.result refl c.requires.noted c.index-notes-at.is in
    let below = rw (c.in-Group.is, outs-Group) at c.requires.below in
    rw (value_out, c.in-Group.is, outs-Group, note, ← c.deref-in-Group.ensures.value) (c.group_of.ensures ((meant w c.in-Group.field-2.value).value (c.args.at + 1) c.args.leaf) below)

pub returns-in-Window : goal.returns-in-Window
returns-in-Window g c =
    let w = environment (g.O.Ops.meaning c.args.ops.now) c.args.hubs.now c.args.joins.now c.args.notes.now in
    let note : slice_get c.args.notes.now c.args.at ≡ Some c.index-notes-at.result = slice_get_read c.args.notes.now (length c.args.notes.now) c.args.at c.index-notes-at.result refl c.requires.noted c.index-notes-at.is in
    let below = rw (c.in-Window.is, outs-Window) at c.requires.below in
    rw (value_out, c.in-Window.is, outs-Window, note, ← c.deref-in-Window.ensures.value) (c.if_quiet-in-Window.ensures _ (c.window_of.ensures ((meant w c.in-Window.field-2.value).value (c.args.at + 1) c.args.leaf) below))

pub returns-in-Flat : goal.returns-in-Flat
returns-in-Flat g c =
    let w = environment (g.O.Ops.meaning c.args.ops.now) c.args.hubs.now c.args.joins.now c.args.notes.now in
    let note : slice_get c.args.notes.now c.args.at ≡ Some c.index-notes-at.result = slice_get_read c.args.notes.now (length c.args.notes.now) c.args.at c.index-notes-at.result refl c.requires.noted c.index-notes-at.is in
    let below = rw (c.in-Flat.is, outs-Flat) at c.requires.below in
    rw (value_out, c.in-Flat.is, outs-Flat, note, ← c.deref-in-Flat.ensures.value) (c.flat_of.ensures ((meant w c.in-Flat.field-3.value).value (c.args.at + 1) c.args.leaf) below)

pub returns-in-FlatDelay : goal.returns-in-FlatDelay
returns-in-FlatDelay g c =
    let w = environment (g.O.Ops.meaning c.args.ops.now) c.args.hubs.now c.args.joins.now c.args.notes.now in
    let note : slice_get c.args.notes.now c.args.at ≡ Some c.index-notes-at.result = slice_get_read c.args.notes.now (length c.args.notes.now) c.args.at c.index-notes-at.result refl c.requires.noted c.index-notes-at.is in
    let below = rw (c.in-FlatDelay.is, outs-FlatDelay) at c.requires.below in
    rw (value_out, c.in-FlatDelay.is, outs-FlatDelay, note, ← c.deref-in-FlatDelay.ensures.value) (c.flat_delay_of.ensures ((meant w c.in-FlatDelay.field-3.value).value (c.args.at + 1) c.args.leaf) below)

pub returns-in-On : goal.returns-in-On
returns-in-On g c =
    let w = environment (g.O.Ops.meaning c.args.ops.now) c.args.hubs.now c.args.joins.now c.args.notes.now in
    let note : slice_get c.args.notes.now c.args.at ≡ Some c.index-notes-at.result = slice_get_read c.args.notes.now (length c.args.notes.now) c.args.at c.index-notes-at.result refl c.requires.noted c.index-notes-at.is in
    let below = rw (c.in-On.is, outs-On) at c.requires.below in
    rw (value_out, c.in-On.is, outs-On, note) (c.if_quiet-in-On.ensures _ (c.only_of.ensures ((meant w c.in-On.field-2.value).value (c.args.at + 1) c.args.leaf) below))

pub returns-in-OnEager : goal.returns-in-OnEager
returns-in-OnEager g c =
    let w = environment (g.O.Ops.meaning c.args.ops.now) c.args.hubs.now c.args.joins.now c.args.notes.now in
    let note : slice_get c.args.notes.now c.args.at ≡ Some c.index-notes-at.result = slice_get_read c.args.notes.now (length c.args.notes.now) c.args.at c.index-notes-at.result refl c.requires.noted c.index-notes-at.is in
    let below = rw (c.in-OnEager.is, outs-OnEager) at c.requires.below in
    rw (value_out, c.in-OnEager.is, outs-OnEager, note) (c.on_eager_of.ensures ((meant w c.in-OnEager.field-2.value).value (c.args.at + 1) c.args.leaf) below)
