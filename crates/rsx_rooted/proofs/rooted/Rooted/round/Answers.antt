use Rattle.std.proofs.Common.{rules, arith, ap, ◌∙◌, ◌≡◌, ◌+◌, ◌-◌, ◌<◌, ◌≤◌}
use Rattle.rsx_sources.specs.declared.machine.NotMade.{NotMade}
use Rattle.rsx_sources.specs.declared.machine.NotMade.TheVariants.{NotEnabled, NoMemory}
use Rattle.rsx_tree.specs.declared.look.NodeMove.TheVariants.{Send}
use Rattle.rsx_rooted.specs.Rooted.{pump_allocates}
use Rattle.rsx_rooted.proofs.Parts.{root_free, pumped_none, pumped_made, pumped_driven, quiet_driven, pumped_on}
use Rattle.rsx_rooted.proofs.rooted.Rooted.round.Goals as goal

pub returns-in-Ok-clause-pumped : goal.returns-in-Ok-clause-pumped
returns-in-Ok-clause-pumped g c =
    let m = g.O.Ops.meaning c.args.ops.now in
    let more : 1 + (c.args.budget - 1) ≡ c.args.budget = let z = c.requires in omega (arith, z) in
    (1, more, pumped_made g.M.Machine g.S.Sink m (Send 0) c.args.self.now c.send_root.new.self c.args.out.now c.send_root.new.out c.in-Ok.ensures.enabled c.in-Ok.ensures.made)

pub returns-in-Err-NoMemory-clause-pumped : goal.returns-in-Err-NoMemory-clause-pumped
returns-in-Err-NoMemory-clause-pumped g c =
    let same = c.in-Err-NoMemory.ensures.same in
    (0, omega arith, rw (same.0, same.1) (pumped_none g.M.Machine g.S.Sink (g.O.Ops.meaning c.args.ops.now) c.args.self.now c.args.out.now))

pub returns-then-left-budget-clause-pumped : goal.returns-then-left-budget-clause-pumped
returns-then-left-budget-clause-pumped g c =
    let m = g.O.Ops.meaning c.args.ops.now in
    let same = c.in-Err-NotEnabled.ensures.same in
    let d = c.in-Ok-drive.ensures.driven in
    (d.0, d.1, rw (← same.0, ← same.1) (pumped_driven g.M.Machine g.S.Sink m d.0 c.send_root.new.self c.drive.new.self c.send_root.new.out d.2 c.in-Ok-drive.ensures.balance))

pub returns-in-Ok-true-clause-pumped : goal.returns-in-Ok-true-clause-pumped
returns-in-Ok-true-clause-pumped g c =
    let m = g.O.Ops.meaning c.args.ops.now in
    let same = c.in-Err-NotEnabled.ensures.same in
    let d = c.in-Ok-drive.ensures.driven in
    let first = pumped_driven g.M.Machine g.S.Sink m d.0 c.send_root.new.self c.drive.new.self c.send_root.new.out d.2 c.in-Ok-drive.ensures.balance in
    let spent : (d.0 + 1) + (c.args.budget - 1) ≡ c.args.budget = let e = d.1 in let all = c.if-left-budget.false in let z = c.requires in omega (arith, e, all, z) in
    (d.0 + 1, spent, rw (← same.0, ← same.1) (pumped_on g.M.Machine g.S.Sink m d.0 1 c.send_root.new.self (record { tree = c.drive.new.self; root = c.send_root.new.self.root }) c.step_root.new.self c.send_root.new.out c.send_root.new.out c.step_root.new.out first (c.in-Ok-true.ensures.pumped c.in-Ok-true.field-0-test)))

pub returns-in-Ok-false-clause-pumped : goal.returns-in-Ok-false-clause-pumped
returns-in-Ok-false-clause-pumped g c =
    let m = g.O.Ops.meaning c.args.ops.now in
    let same = c.in-Err-NotEnabled.ensures.same in
    let none = c.in-Ok-false.ensures.none c.in-Ok-false.field-0-test in
    let d = c.in-Ok-drive.ensures.driven in
    let spent : d.0 + c.args.budget ≡ c.args.budget = let e = d.1 in let all = c.if-left-budget.false in omega (arith, e, all) in
    (d.0, spent, rw (none.0, none.1, ← same.0, ← same.1) (pumped_driven g.M.Machine g.S.Sink m d.0 c.send_root.new.self c.drive.new.self c.send_root.new.out d.2 c.in-Ok-drive.ensures.balance))

pub returns-in-Err-step_root-clause-pumped : goal.returns-in-Err-step_root-clause-pumped
returns-in-Err-step_root-clause-pumped g c =
    let m = g.O.Ops.meaning c.args.ops.now in
    let same = c.in-Err-NotEnabled.ensures.same in
    let none = c.in-Err-step_root.ensures.same in
    let d = c.in-Ok-drive.ensures.driven in
    let within : d.0 ≤ c.args.budget = let e = d.1 in omega (arith, e) in
    (d.0, within, rw (none.0, none.1, ← same.0, ← same.1) (pumped_driven g.M.Machine g.S.Sink m d.0 c.send_root.new.self c.drive.new.self c.send_root.new.out d.2 c.in-Ok-drive.ensures.balance))

pub returns-in-Err-clause-pumped : goal.returns-in-Err-clause-pumped
returns-in-Err-clause-pumped g c =
    let m = g.O.Ops.meaning c.args.ops.now in
    let same = c.in-Err-NotEnabled.ensures.same in
    let d = c.in-Err.ensures.driven in
    (d.0, d.1, rw (← same.0, ← same.1) (pumped_driven g.M.Machine g.S.Sink m d.0 c.send_root.new.self c.drive.new.self c.send_root.new.out d.2 c.in-Err.ensures.balance))

pub returns-in-Ok-false-clause-idle : goal.returns-in-Ok-false-clause-idle
returns-in-Ok-false-clause-idle g c = λ _.
    let m = g.O.Ops.meaning c.args.ops.now in
    let same = c.in-Err-NotEnabled.ensures.same in
    let none = c.in-Ok-false.ensures.none c.in-Ok-false.field-0-test in
    let d = c.in-Ok-drive.ensures.driven in
    let shut = c.in-Err-NotEnabled.ensures.err in
    let all : c.args.budget ≤ c.in-Ok-drive.left = let h = c.if-left-budget.false in omega (arith, h) in
    let some : 0 < c.in-Ok-drive.left = let z = c.requires in omega (arith, all, z) in
    rw (none.0, none.1) (quiet_driven g.M.Machine m d.0 c.in-Ok-drive.left c.args.budget c.send_root.new.self c.drive.new.self (g.S.Sink.room c.send_root.new.out) d.1 all d.2 (rw (same.0, same.1) (search rules)) (c.in-Ok-drive.ensures.idle some)
    (c.in-Ok-false.ensures.still c.in-Ok-false.field-0-test))

pub returns-in-Err-NoMemory-clause-memory : goal.returns-in-Err-NoMemory-clause-memory
returns-in-Err-NoMemory-clause-memory g c = λ free.
    absurd (never c.in-Err-NoMemory.field-0 c.in-Err-NoMemory.field-0-is (c.in-Err-NoMemory.ensures.memory (root_free g.M.Machine (g.O.Ops.allocates c.args.ops.now) c.args.self.now free)))
  where
    never : (e : NotMade) → e ≡ NoMemory → e ≡ NotEnabled → ⊥
    never e h k = cc

pub returns-in-Err-clause-memory : goal.returns-in-Err-clause-memory
returns-in-Err-clause-memory g c = λ free.
    let same = c.in-Err-NotEnabled.ensures.same in
    c.in-Err.ensures.memory (ap (pump_allocates g.M.Machine (g.O.Ops.allocates c.args.ops.now)) same.0 ∙ free)

pub returns-in-Err-step_root-clause-memory : goal.returns-in-Err-step_root-clause-memory
returns-in-Err-step_root-clause-memory g c = λ free.
    let a = g.O.Ops.allocates c.args.ops.now in
    let same = c.in-Err-NotEnabled.ensures.same in
    c.in-Err-step_root.ensures.memory (c.in-Ok-drive.ensures.alike.0 a ∙ (ap (pump_allocates g.M.Machine a) same.0 ∙ free))
