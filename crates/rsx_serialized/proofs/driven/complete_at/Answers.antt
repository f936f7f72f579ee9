use Rattle.rsx_types.specs.declared.signal.Signal.TheVariants.{Complete}
use Rattle.rsx_serialized.specs.Driven.{Ends}
use Rattle.rsx_serialized.proofs.Drives.{emitter_moved, emitter_read}
use Rattle.rsx_serialized.proofs.driven.complete_at.Goals as goal

pub complete-requires-after_bounds : goal.complete-requires-after_bounds
complete-requires-after_bounds g c κs within = emitter_read c.args.graph.now.links.emitters.items c.args.emitters.now.items c.args.place c.index_mut.result.now c.requires c.index_mut.ensures.value

pub returns : goal.returns
returns g c =
    let t = c.complete.ensures in
    emitter_moved c.args.graph.now.links.emitters.items c.args.emitters.now.items c.args.place c.index_mut.result.now c.requires c.index_mut.ensures.value c.complete.new.emitter (Ends Complete c.complete.result) t.end (record { ok = t.ok; enabled = t.enabled; same = t.same; err = t.err; succeeds = t.succeeds })
