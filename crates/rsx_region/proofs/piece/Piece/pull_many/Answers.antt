use Rattle.std.proofs.Common.{refl, ap, ◌∙◌}
use Rattle.rsx_tree.specs.Edges.{is_live}
use Rattle.rsx_region.specs.declared.piece.Piece.{Piece}
use Rattle.rsx_region.proofs.AtOnce.{all_asked, looked_up, made_ahead, pulled_many, pulled_then, used_is}
use Rattle.rsx_region.proofs.Ends.{ends_root}
use Rattle.rsx_region.proofs.Pieces.{in_step_same, live_from}
use Rattle.rsx_region.proofs.piece.Piece.pull_many.Goals as goal

pub returns-then-room-lt-FEWEST_IN_BATCH-clause-ends : goal.returns-then-room-lt-FEWEST_IN_BATCH-clause-ends
returns-then-room-lt-FEWEST_IN_BATCH-clause-ends g c =
    let p = c.args.self.now in
    let room = c.free-room.ensures.same in
    let q : Piece g.row.N.Denot g.row.T.Denot = record { part = p.part; link = p.link; up = c.free-room.new.self; inlets = p.inlets } in
    let looked = looked_up g.N.Machine (g.O.Ops.meaning c.args.ops.now) c.args.links.now c.link_at-link.result.now p q (refl, refl) room.0 refl room.1 in
    ends_root c.args.links.now p q c.link_at-link.result.now c.link_at-link.ensures (refl, refl) room.0.0 (looked.step c.requires.step) c.requires

pub returns-then-room-lt-FEWEST_IN_BATCH-clause-run : goal.returns-then-room-lt-FEWEST_IN_BATCH-clause-run
returns-then-room-lt-FEWEST_IN_BATCH-clause-run g c =
    let p = c.args.self.now in
    let room = c.free-room.ensures.same in
    let q : Piece g.row.N.Denot g.row.T.Denot = record { part = p.part; link = p.link; up = c.free-room.new.self; inlets = p.inlets } in
    let looked = looked_up g.N.Machine (g.O.Ops.meaning c.args.ops.now) c.args.links.now c.link_at-link.result.now p q (refl, refl) room.0 refl room.1 in
    (used_is g.N.Machine (g.O.Ops.meaning c.args.ops.now) c.args.links.now 0 0 p q looked).1

pub put_all-requires-clause-asked : goal.put_all-requires-clause-asked
put_all-requires-clause-asked g c =
    let room = c.free-room.ensures.same in
    all_asked g.N.Machine (g.O.Ops.meaning c.args.ops.now) c.fetch_batch.new.batch.items.items c.args.budget c.fetch_batch.new.left c.args.self.now.part c.fetch_batch.new.self c.free-room.new.self
    (in_step_same c.args.self.now.part c.args.self.now.up c.free-room.new.self c.requires.step room.0.1 room.0.2 room.1) (c.fetch_batch.ensures.yes c.if-fetch_batch.true)

pub overflow_sub-result : goal.overflow_sub-result
overflow_sub-result g c =
    let p = c.args.self.now in
    let room = c.free-room.ensures.same in
    let mid : Piece g.row.N.Denot g.row.T.Denot = record { part = p.part; link = p.link; up = c.free-room.new.self; inlets = p.inlets } in
    let new : Piece g.row.N.Denot g.row.T.Denot = record { part = c.fetch_batch.new.self; link = p.link; up = c.put_all.new.up; inlets = p.inlets } in
    let live = live_from p.part.root.state c.is_live.result (c.is_live.ensures ∙ ap (λ e. is_live e.state) c.root_edge.ensures) c.if-not-is_live.false in
    (used_is g.N.Machine (g.O.Ops.meaning c.args.ops.now) c.args.links.now c.args.budget c.fetch_batch.new.left mid new (pulled_many g.N.Machine (g.O.Ops.meaning c.args.ops.now) c.args.links.now c.fetch_batch.new.batch.items.items c.args.budget c.fetch_batch.new.left mid new (refl, refl) live (c.fetch_batch.ensures.yes c.if-fetch_batch.true) c.put_all.ensures.sent)).0

pub returns-then-fetch_batch-clause-ends : goal.returns-then-fetch_batch-clause-ends
returns-then-fetch_batch-clause-ends g c =
    let p = c.args.self.now in
    let m = g.O.Ops.meaning c.args.ops.now in
    let room = c.free-room.ensures.same in
    let mid : Piece g.row.N.Denot g.row.T.Denot = record { part = p.part; link = p.link; up = c.free-room.new.self; inlets = p.inlets } in
    let new : Piece g.row.N.Denot g.row.T.Denot = record { part = c.fetch_batch.new.self; link = p.link; up = c.put_all.new.up; inlets = p.inlets } in
    let live = live_from p.part.root.state c.is_live.result (c.is_live.ensures ∙ ap (λ e. is_live e.state) c.root_edge.ensures) c.if-not-is_live.false in
    let looked = looked_up g.N.Machine m c.args.links.now c.link_at-link.result.now p mid (refl, refl) room.0 refl room.1 in
    let pulled = pulled_many g.N.Machine m c.args.links.now c.fetch_batch.new.batch.items.items c.args.budget c.fetch_batch.new.left mid new (refl, refl) live (c.fetch_batch.ensures.yes c.if-fetch_batch.true) c.put_all.ensures.sent in
    ends_root c.args.links.now p new c.link_at-link.result.now c.link_at-link.ensures (refl, refl) c.put_all.ensures.same.0 (pulled.step (looked.step c.requires.step)) c.requires

pub returns-then-fetch_batch-clause-run : goal.returns-then-fetch_batch-clause-run
returns-then-fetch_batch-clause-run g c =
    let p = c.args.self.now in
    let m = g.O.Ops.meaning c.args.ops.now in
    let room = c.free-room.ensures.same in
    let mid : Piece g.row.N.Denot g.row.T.Denot = record { part = p.part; link = p.link; up = c.free-room.new.self; inlets = p.inlets } in
    let new : Piece g.row.N.Denot g.row.T.Denot = record { part = c.fetch_batch.new.self; link = p.link; up = c.put_all.new.up; inlets = p.inlets } in
    let live = live_from p.part.root.state c.is_live.result (c.is_live.ensures ∙ ap (λ e. is_live e.state) c.root_edge.ensures) c.if-not-is_live.false in
    let looked = looked_up g.N.Machine m c.args.links.now c.link_at-link.result.now p mid (refl, refl) room.0 refl room.1 in
    let pulled = pulled_many g.N.Machine m c.args.links.now c.fetch_batch.new.batch.items.items c.args.budget c.fetch_batch.new.left mid new (refl, refl) live (c.fetch_batch.ensures.yes c.if-fetch_batch.true) c.put_all.ensures.sent in
    (used_is g.N.Machine m c.args.links.now c.args.budget c.fetch_batch.new.left p new (pulled_then g.N.Machine m c.args.links.now c.args.budget c.fetch_batch.new.left p mid new looked pulled)).1

pub returns-then-fetch_batch-clause-stands : goal.returns-then-fetch_batch-clause-stands
returns-then-fetch_batch-clause-stands g c hubs opening h =
    let p = c.args.self.now in
    let m = g.O.Ops.meaning c.args.ops.now in
    let room = c.free-room.ensures.same in
    let mid : Piece g.row.N.Denot g.row.T.Denot = record { part = p.part; link = p.link; up = c.free-room.new.self; inlets = p.inlets } in
    let new : Piece g.row.N.Denot g.row.T.Denot = record { part = c.fetch_batch.new.self; link = p.link; up = c.put_all.new.up; inlets = p.inlets } in
    let live = live_from p.part.root.state c.is_live.result (c.is_live.ensures ∙ ap (λ e. is_live e.state) c.root_edge.ensures) c.if-not-is_live.false in
    let looked = looked_up g.N.Machine m c.args.links.now c.link_at-link.result.now p mid (refl, refl) room.0 refl room.1 in
    let pulled = pulled_many g.N.Machine m c.args.links.now c.fetch_batch.new.batch.items.items c.args.budget c.fetch_batch.new.left mid new (refl, refl) live (c.fetch_batch.ensures.yes c.if-fetch_batch.true) c.put_all.ensures.sent in
    pulled.stands hubs opening (looked.stands hubs opening h)

pub returns-clause-ends : goal.returns-clause-ends
returns-clause-ends g c =
    let p = c.args.self.now in
    let m = g.O.Ops.meaning c.args.ops.now in
    let room = c.free-room.ensures.same in
    let mid : Piece g.row.N.Denot g.row.T.Denot = record { part = p.part; link = p.link; up = c.free-room.new.self; inlets = p.inlets } in
    let new : Piece g.row.N.Denot g.row.T.Denot = record { part = c.make_ahead.new.self; link = p.link; up = c.free-room.new.self; inlets = p.inlets } in
    let live = live_from p.part.root.state c.is_live.result (c.is_live.ensures ∙ ap (λ e. is_live e.state) c.root_edge.ensures) c.if-not-is_live.false in
    let still = c.fetch_batch.ensures.no c.if-fetch_batch.false in
    let looked = looked_up g.N.Machine m c.args.links.now c.link_at-link.result.now p mid (refl, refl) room.0 refl room.1 in
    let made = made_ahead g.N.Machine m c.args.links.now c.args.budget c.fetch_batch.new.left c.make_ahead.new.left mid new c.fetch_batch.new.self (refl, refl) live still.0 still.1 c.make_ahead.ensures.made refl in
    ends_root c.args.links.now p new c.link_at-link.result.now c.link_at-link.ensures (refl, refl) room.0.0 (made.step (looked.step c.requires.step)) c.requires

pub returns-clause-run : goal.returns-clause-run
returns-clause-run g c =
    let p = c.args.self.now in
    let m = g.O.Ops.meaning c.args.ops.now in
    let room = c.free-room.ensures.same in
    let mid : Piece g.row.N.Denot g.row.T.Denot = record { part = p.part; link = p.link; up = c.free-room.new.self; inlets = p.inlets } in
    let new : Piece g.row.N.Denot g.row.T.Denot = record { part = c.make_ahead.new.self; link = p.link; up = c.free-room.new.self; inlets = p.inlets } in
    let live = live_from p.part.root.state c.is_live.result (c.is_live.ensures ∙ ap (λ e. is_live e.state) c.root_edge.ensures) c.if-not-is_live.false in
    let still = c.fetch_batch.ensures.no c.if-fetch_batch.false in
    let looked = looked_up g.N.Machine m c.args.links.now c.link_at-link.result.now p mid (refl, refl) room.0 refl room.1 in
    let made = made_ahead g.N.Machine m c.args.links.now c.args.budget c.fetch_batch.new.left c.make_ahead.new.left mid new c.fetch_batch.new.self (refl, refl) live still.0 still.1 c.make_ahead.ensures.made refl in
    (used_is g.N.Machine m c.args.links.now c.args.budget c.make_ahead.new.left p new (pulled_then g.N.Machine m c.args.links.now c.args.budget c.make_ahead.new.left p mid new looked made)).1

pub returns-clause-stands : goal.returns-clause-stands
returns-clause-stands g c hubs opening h =
    let p = c.args.self.now in
    let m = g.O.Ops.meaning c.args.ops.now in
    let room = c.free-room.ensures.same in
    let mid : Piece g.row.N.Denot g.row.T.Denot = record { part = p.part; link = p.link; up = c.free-room.new.self; inlets = p.inlets } in
    let new : Piece g.row.N.Denot g.row.T.Denot = record { part = c.make_ahead.new.self; link = p.link; up = c.free-room.new.self; inlets = p.inlets } in
    let live = live_from p.part.root.state c.is_live.result (c.is_live.ensures ∙ ap (λ e. is_live e.state) c.root_edge.ensures) c.if-not-is_live.false in
    let still = c.fetch_batch.ensures.no c.if-fetch_batch.false in
    let looked = looked_up g.N.Machine m c.args.links.now c.link_at-link.result.now p mid (refl, refl) room.0 refl room.1 in
    let made = made_ahead g.N.Machine m c.args.links.now c.args.budget c.fetch_batch.new.left c.make_ahead.new.left mid new c.fetch_batch.new.self (refl, refl) live still.0 still.1 c.make_ahead.ensures.made refl in
    made.stands hubs opening (looked.stands hubs opening h)
