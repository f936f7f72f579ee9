use Rattle.rsx_serialized.specs.Driven.{Emits}
use Rattle.rsx_serialized.proofs.Drives.{emitter_moved, emitter_read}
use Rattle.rsx_serialized.proofs.driven.emit_at.Goals as goal

pub emit-requires-after_bounds : goal.emit-requires-after_bounds
emit-requires-after_bounds g c κs within = emitter_read c.args.graph.now.links.emitters.items c.args.emitters.now.items c.args.place c.index_mut.result.now c.requires c.index_mut.ensures.value

pub returns : goal.returns
returns g c =
    let t = c.emit.ensures in
    emitter_moved c.args.graph.now.links.emitters.items c.args.emitters.now.items c.args.place c.index_mut.result.now c.requires c.index_mut.ensures.value c.emit.new.emitter (Emits c.args.item c.emit.result) t.end (record { ok = t.ok; enabled = t.enabled; still = t.«open»; same = t.same; err = t.err; succeeds = t.succeeds })
