use Rattle.rsx_types.specs.declared.signal.Cause.TheVariants.{User}
use Rattle.rsx_types.specs.declared.signal.Signal.TheVariants.{Error}
use Rattle.rsx_serialized.specs.Driven.{Ends}
use Rattle.rsx_serialized.proofs.Drives.{emitter_moved, emitter_read}
use Rattle.rsx_serialized.proofs.driven.fail_at.Goals as goal

pub fail-requires-after_bounds : goal.fail-requires-after_bounds
fail-requires-after_bounds g c κs within = emitter_read c.args.graph.now.links.emitters.items c.args.emitters.now.items c.args.place c.index_mut.result.now c.requires c.index_mut.ensures.value

pub returns : goal.returns
returns g c =
    let t = c.fail.ensures in
    emitter_moved c.args.graph.now.links.emitters.items c.args.emitters.now.items c.args.place c.index_mut.result.now c.requires c.index_mut.ensures.value c.fail.new.emitter (Ends (Error (User c.args.number)) c.fail.result) t.end (record { ok = t.ok; enabled = t.enabled; same = t.same; err = t.err; succeeds = t.succeeds })
