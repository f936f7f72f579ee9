use Rattle.std.proofs.Common.{refl}
use Rattle.rsx_serialized.proofs.Drives.{emitter_changed, emitter_found, emitters_started}
use Rattle.rsx_serialized.proofs.starting.StartedGraph.emit.Goals as goal

pub emit_at-requires-after_bounds : goal.emit_at-requires-after_bounds
emit_at-requires-after_bounds g c κs within = emitter_found c.args.self.now c.requires c.args.hub c.deref.result.now c.in-Some.place c.deref.ensures.value c.in-Some.ensures.some

pub returns-in-Ok : goal.returns-in-Ok
returns-in-Ok g c =
    let s = c.args.self.now in
    record {
      started = emitters_started s c.requires c.emit_at.new.emitters c.in-Some.place _ c.in-Ok.ensures;
      same = (refl, refl, refl);
      emitted = emitter_changed s c.requires c.args.hub c.deref.result.now c.in-Some.place c.deref.ensures.value c.in-Some.ensures.some c.emit_at.new.emitters.items _ _ c.in-Ok.ensures;
    }

pub returns-in-Err : goal.returns-in-Err
returns-in-Err g c =
    let s = c.args.self.now in
    record {
      started = emitters_started s c.requires c.emit_at.new.emitters c.in-Some.place _ c.in-Err.ensures;
      same = (refl, refl, refl);
      emitted = emitter_changed s c.requires c.args.hub c.deref.result.now c.in-Some.place c.deref.ensures.value c.in-Some.ensures.some c.emit_at.new.emitters.items _ _ c.in-Err.ensures;
    }
