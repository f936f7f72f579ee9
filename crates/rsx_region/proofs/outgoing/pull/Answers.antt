use Rattle.std.proofs.Common.{◌≡◌, ℕ, ◌-◌, inl, inr, ap, ◌∙◌, subst, arith}
use Rattle.rsx_sources.specs.Prelude.{Next}
use Rattle.rsx_tree.specs.Edges.{is_live}
use Rattle.rsx_rooted.proofs.Parts.{pumped_none}
use Rattle.rsx_pipe.specs.Fetched.{IsWorked}
use Rattle.rsx_pipe.specs.Part.{no_room}
use Rattle.rsx_link.specs.Ends.{sent_signals}
use Rattle.rsx_region.proofs.Growth.{link_many}
use Rattle.rsx_region.proofs.Inlets.{link_sent}
use Rattle.rsx_region.proofs.Pieces.{in_step_many, in_step_same, in_step_sent, live_from, may_send, sent_behind, stands_many, stands_same, stands_sent}
use Rattle.rsx_region.proofs.outgoing.pull.Goals as goal
use Rattle.rsx_region.proofs.outgoing.pull.Goals.{then-not-is_live-via-then-not-is_live, then-not-is_live-via-else-not-is_live+then-not-has_room}

pub put-requires-clause-asked : goal.put-requires-clause-asked
put-requires-clause-asked g c =
    let room = c.has_room.ensures.same in
    let k = c.in-Some.ensures in
    may_send k.1 c.has_room.new.self (Next c.in-Some.item) (in_step_many g.N.Machine (g.O.Ops.meaning c.args.ops.now) k.0 c.args.part.now k.1 c.has_room.new.self (in_step_same c.args.part.now c.args.up.now c.has_room.new.self c.requires.step room.0.1 room.0.2 room.1) k.3) k.4.can

pub returns-in-Some-clause-step : goal.returns-in-Some-clause-step
returns-in-Some-clause-step g c =
    let m = g.O.Ops.meaning c.args.ops.now in
    let room = c.has_room.ensures.same in
    let sent = c.put.ensures in
    let k = c.in-Some.ensures in
    in_step_sent g.N.Machine m k.1 c.fetch.new.self c.has_room.new.self c.put.new.self (Next c.in-Some.item)
    (in_step_many g.N.Machine m k.0 c.args.part.now k.1 c.has_room.new.self (in_step_same c.args.part.now c.args.up.now c.has_room.new.self c.requires.step room.0.1 room.0.2 room.1) k.3) k.4 sent.same.1 sent.same.2 sent.sent

pub returns-in-Some-clause-stands : goal.returns-in-Some-clause-stands
returns-in-Some-clause-stands g c taken old queued h =
    let m = g.O.Ops.meaning c.args.ops.now in
    let room = c.has_room.ensures.same in
    let sent = c.put.ensures in
    let k = c.in-Some.ensures in
    let live = live_from c.args.part.now.root.state c.is_live.result (c.is_live.ensures ∙ ap (λ e. is_live e.state) c.root_edge.ensures) c.if-not-is_live.false in
    stands_sent g.N.Machine m taken old queued k.1 c.fetch.new.self c.has_room.new.self c.put.new.self (Next c.in-Some.item)
    (stands_many g.N.Machine m taken old queued k.0 c.args.part.now k.1 c.has_room.new.self live (stands_same g.N.Machine m taken old queued c.args.part.now c.args.up.now c.has_room.new.self h room.0.1 room.0.2 room.1) k.3) k.4 sent.same.1 sent.same.2 sent.sent

pub returns-in-Some-clause-inlets : goal.returns-in-Some-clause-inlets
returns-in-Some-clause-inlets g c taken i h =
    let m = g.O.Ops.meaning c.args.ops.now in
    let k = c.in-Some.ensures in
    link_sent g.N.Machine m taken k.1 c.fetch.new.self (Next c.in-Some.item) i.hub i.down i.closer k.4 (link_many g.N.Machine m taken k.0 c.args.part.now k.1 i.hub i.down i.closer k.3 h)

pub returns-in-None-clause-stands : goal.returns-in-None-clause-stands
returns-in-None-clause-stands g c taken old queued h =
    let m = g.O.Ops.meaning c.args.ops.now in
    let room = c.has_room.ensures.same in
    let k = c.in-None.ensures in
    let live = live_from c.args.part.now.root.state c.is_live.result (c.is_live.ensures ∙ ap (λ e. is_live e.state) c.root_edge.ensures) c.if-not-is_live.false in
    stands_many g.N.Machine m taken old queued k.0 c.args.part.now c.fetch.new.self c.has_room.new.self live (stands_same g.N.Machine m taken old queued c.args.part.now c.args.up.now c.has_room.new.self h room.0.1 room.0.2 room.1) k.2

pub returns-in-None-clause-inlets : goal.returns-in-None-clause-inlets
returns-in-None-clause-inlets g c taken i h =
    let k = c.in-None.ensures in
    link_many g.N.Machine (g.O.Ops.meaning c.args.ops.now) taken k.0 c.args.part.now c.fetch.new.self i.hub i.down i.closer k.2 h

pub returns-in-Some-clause-pulled : goal.returns-in-Some-clause-pulled
returns-in-Some-clause-pulled g c =
    let k = c.in-Some.ensures in
    let all = k.2 in
    inl (k.0, omega (arith, all), record { item = c.in-Some.item; mid = k.1; worked = k.3; out = k.4; pushed = sent_behind c.args.up.now c.has_room.new.self c.put.new.self (Next c.in-Some.item) c.has_room.ensures.same.1 c.put.ensures.sent })

pub returns-in-None-clause-pulled : goal.returns-in-None-clause-pulled
returns-in-None-clause-pulled g c =
    let k = c.in-None.ensures in
    let all = k.1 in
    let count : k.0 ≡ c.args.budget - c.fetch.new.left = omega (arith, all) in
    inr (subst (λ (n : ℕ). IsWorked g.N.Machine (g.O.Ops.meaning c.args.ops.now) n c.args.part.now c.fetch.new.self) count k.2, c.has_room.ensures.same.1)

pub returns-then-not-is_live-clause-pulled : goal.returns-then-not-is_live-clause-pulled
returns-then-not-is_live-clause-pulled g c =
    inr (
      pumped_none g.N.Machine no_room (g.O.Ops.meaning c.args.ops.now) c.args.part.now tt,
      elim c.then-not-is_live.branch [
        | then-not-is_live-via-then-not-is_live w ↦ ap sent_signals w.up-is
        | then-not-is_live-via-else-not-is_live+then-not-has_room w ↦ let room = w.has_room.ensures.same.1 in ap sent_signals w.up-is ∙ room
      ],
    )
