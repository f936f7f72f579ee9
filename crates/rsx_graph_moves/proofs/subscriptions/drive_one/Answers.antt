use Rattle.std.proofs.Common.{inl, inr, refl, sym}
use Rattle.std.proofs.lemmas.List.{length-set}
use Rattle.rsx_types.specs.declared.fault.NoMemory.{NoMemory}
use Rattle.rsx_rooted.specs.declared.rooted.Pumped.TheVariants.{Idle as Rests, Budget as Wakes}
use Rattle.rsx_graph_state.proofs.Graphs.{free_there, pumped_there, rested_there}
use Rattle.rsx_graph_moves.proofs.Rest.{changed_idle, rested_idle}
use Rattle.rsx_graph_moves.proofs.subscriptions.drive_one.Goals as goal

pub returns-in-Ok-Idle-clause-driven : goal.returns-in-Ok-Idle-clause-driven
returns-in-Ok-Idle-clause-driven g c =
    let m = g.O.Ops.meaning c.args.ops.now in
    let p = rw c.in-Ok-Idle.field-0-is at c.in-Ok-Idle.ensures.pumped in (
      p.0,
      rested_there g.N.Machine g.N.Nodes NoMemory m c.args.budget p.0 c.args.sub.0 c.args.subscriptions.now.items c.index_mut-subscription.result.now c.pump.new.self (Rests c.in-Ok-Idle.left) c.requires.there p.1,
      pumped_there g.N.Machine g.N.Nodes m c.args.sub p.0 c.args.subscriptions.now.items c.index_mut-subscription.result.now c.pump.new.self c.args.out.now.signals c.pump.new.out.signals c.requires.there (sym c.index_mut-subscription.ensures.value) p.2,
    )

pub returns-in-Ok-Budget-clause-driven : goal.returns-in-Ok-Budget-clause-driven
returns-in-Ok-Budget-clause-driven g c =
    let m = g.O.Ops.meaning c.args.ops.now in
    let p = rw c.in-Ok-Budget.field-0-is at c.in-Ok-Budget.ensures.pumped in (
      p.0,
      rested_there g.N.Machine g.N.Nodes NoMemory m c.args.budget p.0 c.args.sub.0 c.args.subscriptions.now.items c.index_mut-subscription.result.now c.pump.new.self Wakes c.requires.there p.1,
      pumped_there g.N.Machine g.N.Nodes m c.args.sub p.0 c.args.subscriptions.now.items c.index_mut-subscription.result.now c.pump.new.self c.args.out.now.signals c.pump.new.out.signals c.requires.there (sym c.index_mut-subscription.ensures.value) p.2,
    )

pub returns-in-Err-clause-driven : goal.returns-in-Err-clause-driven
returns-in-Err-clause-driven g c =
    let m = g.O.Ops.meaning c.args.ops.now in
    let p = c.in-Err.ensures.pumped in
    (p.0, (p.1, refl), pumped_there g.N.Machine g.N.Nodes m c.args.sub p.0 c.args.subscriptions.now.items c.index_mut-subscription.result.now c.pump.new.self c.args.out.now.signals c.pump.new.out.signals c.requires.there (sym c.index_mut-subscription.ensures.value) p.2)

pub returns-in-Ok-Idle-clause-count : goal.returns-in-Ok-Idle-clause-count
returns-in-Ok-Idle-clause-count g c = length-set c.args.subscriptions.now.items c.args.sub.0 c.pump.new.self

pub returns-in-Ok-Budget-clause-count : goal.returns-in-Ok-Budget-clause-count
returns-in-Ok-Budget-clause-count g c = length-set c.args.subscriptions.now.items c.args.sub.0 c.pump.new.self

pub returns-in-Err-clause-count : goal.returns-in-Err-clause-count
returns-in-Err-clause-count g c = length-set c.args.subscriptions.now.items c.args.sub.0 c.pump.new.self

pub returns-in-Err-clause-memory : goal.returns-in-Err-clause-memory
returns-in-Err-clause-memory g c = λ free.
    c.in-Err.ensures.memory (free_there g.N.Machine (g.O.Ops.allocates c.args.ops.now) c.args.subscriptions.now.items c.args.sub.0 c.index_mut-subscription.result.now c.requires.there (sym c.index_mut-subscription.ensures.value) free)

pub returns-in-Ok-Idle-clause-idle : goal.returns-in-Ok-Idle-clause-idle
returns-in-Ok-Idle-clause-idle g c =
    let m = g.O.Ops.meaning c.args.ops.now in
    let p = rw c.in-Ok-Idle.field-0-is at c.in-Ok-Idle.ensures.pumped in
    rested_idle g.N.Machine m c.args.idle.now c.insert.new.self c.args.subscriptions.now.items c.args.sub.0 c.pump.new.self _ c.insert.ensures.idle c.insert.ensures.apart p.1.1 c.requires.idle

pub returns-in-Ok-Budget-clause-idle : goal.returns-in-Ok-Budget-clause-idle
returns-in-Ok-Budget-clause-idle g c = changed_idle g.N.Machine (g.O.Ops.meaning c.args.ops.now) c.args.idle.now c.args.subscriptions.now.items c.args.sub.0 c.pump.new.self c.requires.outside c.requires.idle

pub returns-in-Err-clause-idle : goal.returns-in-Err-clause-idle
returns-in-Err-clause-idle g c = changed_idle g.N.Machine (g.O.Ops.meaning c.args.ops.now) c.args.idle.now c.args.subscriptions.now.items c.args.sub.0 c.pump.new.self c.requires.outside c.requires.idle

pub returns-in-Ok-Idle-clause-kept : goal.returns-in-Ok-Idle-clause-kept
returns-in-Ok-Idle-clause-kept g c = λ i within. (c.insert.ensures.idle i).1 (inl within)

pub returns-in-Ok-Idle-clause-known : goal.returns-in-Ok-Idle-clause-known
returns-in-Ok-Idle-clause-known g c = λ left e small. (c.insert.ensures.idle c.args.sub.0).1 (inr (refl, small))

pub returns-in-Ok-Budget-clause-known : goal.returns-in-Ok-Budget-clause-known
returns-in-Ok-Budget-clause-known g c = λ left e. cc

pub returns-in-Err-clause-known : goal.returns-in-Err-clause-known
returns-in-Err-clause-known g c = λ left e. cc
