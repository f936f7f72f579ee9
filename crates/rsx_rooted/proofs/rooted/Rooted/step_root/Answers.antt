use Rattle.rsx_rooted.specs.Rooted.{move_enabled}
use Rattle.rsx_rooted.proofs.Looks.{enabled_root}
use Rattle.rsx_rooted.proofs.Parts.{not_refused, pumped_made, root_step_free}
use Rattle.rsx_rooted.proofs.rooted.Rooted.step_root.Goals as goal

pub returns-in-Ok-clause-pumped : goal.returns-in-Ok-clause-pumped
returns-in-Ok-clause-pumped g c = λ _. pumped_made g.M.Machine g.S.Sink (g.O.Ops.meaning c.args.ops.now) c.in-Some.step c.args.self.now c.make.new.self c.args.out.now c.make.new.out c.in-Ok.ensures.enabled c.in-Ok.ensures.made

pub returns-in-Err-clause-memory : goal.returns-in-Err-clause-memory
returns-in-Err-clause-memory g c = λ free.
    let m = g.O.Ops.meaning c.args.ops.now in
    let there = enabled_root g.M.Machine m c.args.self.now (g.S.Sink.room c.args.out.now) c.in-Some.step c.in-Some.ensures.some in
    absurd (not_refused (move_enabled g.M.Machine m c.args.self.now (g.S.Sink.room c.args.out.now) c.in-Some.step) _ there.1 c.in-Err.ensures.err (c.in-Err.ensures.memory (root_step_free g.M.Machine (g.O.Ops.allocates c.args.ops.now) c.args.self.now c.in-Some.step c.in-Some.ensures.some free)))
