use Rattle.std.proofs.Common.{◌-◌, length, take, drop, arith, subst, sym}
use Rattle.std.specs.Io.KnownBytes.{Appends}
use Rattle.std.proofs.lemmas.List.{length-take}
use Rattle.std.proofs.KnownBytes.{Appends-kept}
use Rattle.rsx_drive.proofs.Writing.{begun, further}
use Rattle.rsx_drive.proofs.run.write_bytes.Goals as goal
use Rattle.rsx_drive.proofs.run.write_bytes.Goals.{in-Ok-write, in-Err-write+else-ne}

pub returns-in-Ok-eq0-clause-begun : goal.returns-in-Ok-eq0-clause-begun
returns-in-Ok-eq0-clause-begun g c = begun _ _ c.args.bytes.now _ (further _ _ _ c.args.bytes.now c.loop.done _ c.loop.invariant.written c.in-Ok-eq0.ensures.bytes)

pub returns-then-ne-clause-begun : goal.returns-then-ne-clause-begun
returns-then-ne-clause-begun g c = begun _ _ c.args.bytes.now c.loop.done (Appends-kept _ _ _ _ c.loop.invariant.written c.in-Err-write.ensures.bytes)

pub loop-preserved : goal.loop-preserved
loop-preserved g c = elim c.match-write.branch [
  | in-Ok-write w ↦
      record {
        within = omega (arith, w.done-is, w.in-Ok-write.ensures.bound, length-take (length c.args.bytes.now - c.loop.done) (drop c.loop.done c.args.bytes.now), c.loop.invariant.within);
        written = subst (λ n. Appends (g.W.Write.contents c.args.writer.now) (g.W.Write.contents c.write.new.self) (take n c.args.bytes.now)) (sym w.done-is) (further _ _ _ c.args.bytes.now c.loop.done w.in-Ok-write.count c.loop.invariant.written w.in-Ok-write.ensures.bytes);
      }
  | in-Err-write+else-ne w ↦
      record {
        within = omega (arith, w.done-is, c.loop.invariant.within);
        written = subst (λ n. Appends (g.W.Write.contents c.args.writer.now) (g.W.Write.contents c.write.new.self) (take n c.args.bytes.now)) (sym w.done-is) (Appends-kept _ _ _ _ c.loop.invariant.written w.in-Err-write.ensures.bytes);
      }
]

pub returns-clause-begun : goal.returns-clause-begun
returns-clause-begun g c = begun _ _ c.args.bytes.now c.loop.done c.loop.invariant.written
