use Rattle.std.proofs.Common.{ap, refl, sym, ◌∙◌, arith}
use Rattle.rsx_serialized.proofs.Goes.{goes_same}
use Rattle.rsx_serialized.proofs.Regions.{pump_step}
use Rattle.rsx_serialized.proofs.Resting.{idle_quiet, quiet_under}
use Rattle.rsx_serialized.proofs.Rounds.{budget_works, busy_moved, by_events}
use Rattle.rsx_serialized.proofs.region.GraphRegion.move_on.Goals as goal

pub returns-then-not-is_empty-clause-goes : goal.returns-then-not-is_empty-clause-goes
returns-then-not-is_empty-clause-goes g c = goes_same (g.O.Ops.meaning c.args.self.now.graph.ops) c.args.self.now

pub returns-in-Ok-Idle-clause-goes : goal.returns-in-Ok-Idle-clause-goes
returns-in-Ok-Idle-clause-goes g c = by_events _ _ c.args.self.now _ (pump_step _ c.args.self.now _ c.from_vec-out.result c.pump-pumped.new.out c.pump-pumped.result c.pump-pumped.ensures.pumped c.pump-pumped.ensures.ops (c.from_vec-out.ensures.signals ∙ (c.into_vec.ensures.items ∙ ap (λ v. v.items) c.replace-pending.ensures.value)) (sym (c.from_vec.ensures.items ∙ c.into_vec-2.ensures.signals)) refl refl)

pub returns-in-Ok-Budget-clause-goes : goal.returns-in-Ok-Budget-clause-goes
returns-in-Ok-Budget-clause-goes g c = by_events _ _ c.args.self.now _ (pump_step _ c.args.self.now _ c.from_vec-out.result c.pump-pumped.new.out c.pump-pumped.result c.pump-pumped.ensures.pumped c.pump-pumped.ensures.ops (c.from_vec-out.ensures.signals ∙ (c.into_vec.ensures.items ∙ ap (λ v. v.items) c.replace-pending.ensures.value)) (sym (c.from_vec.ensures.items ∙ c.into_vec-2.ensures.signals)) refl refl)

pub returns-in-Err-clause-goes : goal.returns-in-Err-clause-goes
returns-in-Err-clause-goes g c = by_events _ _ c.args.self.now _ (pump_step _ c.args.self.now _ c.from_vec-out.result c.pump-pumped.new.out c.pump-pumped.result c.pump-pumped.ensures.pumped c.pump-pumped.ensures.ops (c.from_vec-out.ensures.signals ∙ (c.into_vec.ensures.items ∙ ap (λ v. v.items) c.replace-pending.ensures.value)) (sym (c.from_vec.ensures.items ∙ c.into_vec-2.ensures.signals)) refl refl)

pub returns-in-Ok-Idle-clause-idle : goal.returns-in-Ok-Idle-clause-idle
returns-in-Ok-Idle-clause-idle g c e none =
    let idle = rw c.in-Ok-Idle.is at c.in-Ok-Idle.field-0-is in
    let p = rw (c.in-Ok-Idle.is, idle) at c.pump-pumped.ensures.pumped in
    quiet_under c.args.self.now.graph.ops c.pump-pumped.new.self c.pump-pumped.ensures.ops (idle_quiet _ c.args.self.now.graph c.pump-pumped.new.self c.from_vec-out.result c.pump-pumped.new.out p)

pub returns-in-Ok-Idle-clause-quiet : goal.returns-in-Ok-Idle-clause-quiet
returns-in-Ok-Idle-clause-quiet g c e none =
    let idle = rw c.in-Ok-Idle.is at c.in-Ok-Idle.field-0-is in
    let p = rw (c.in-Ok-Idle.is, idle) at c.pump-pumped.ensures.pumped in
    quiet_under c.args.self.now.graph.ops c.pump-pumped.new.self c.pump-pumped.ensures.ops (idle_quiet _ c.args.self.now.graph c.pump-pumped.new.self c.from_vec-out.result c.pump-pumped.new.out p)

pub returns-in-Ok-Budget-clause-busy : goal.returns-in-Ok-Budget-clause-busy
returns-in-Ok-Budget-clause-busy g c e =
    let budget = rw c.in-Ok-Budget.is at c.in-Ok-Budget.field-0-is in
    let p = rw (c.in-Ok-Budget.is, budget) at c.pump-pumped.ensures.pumped in
    busy_moved c.args.self.now _
    (pump_step _ c.args.self.now _ c.from_vec-out.result c.pump-pumped.new.out _ p c.pump-pumped.ensures.ops (c.from_vec-out.ensures.signals ∙ (c.into_vec.ensures.items ∙ ap (λ v. v.items) c.replace-pending.ensures.value)) (sym (c.from_vec.ensures.items ∙ c.into_vec-2.ensures.signals)) refl refl)
    (budget_works 64 c.args.self.now.graph c.pump-pumped.new.self c.from_vec-out.result c.pump-pumped.new.out (omega arith) p)
