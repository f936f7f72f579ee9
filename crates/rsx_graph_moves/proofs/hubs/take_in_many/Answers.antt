use Rattle.std.proofs.Common.{◌∙◌}
use Rattle.rsx_tree.proofs.Runs.{leads_by_lift}
use Rattle.rsx_graph_state.specs.AtOnce.{IsAccept}
use Rattle.rsx_graph_state.specs.Moves.{rows_of}
use Rattle.rsx_graph_state.proofs.Places.{unfed_there}
use Rattle.rsx_graph_moves.specs.Pumped.{IsHubMoved, IsHubMovedOn}
use Rattle.rsx_graph_moves.proofs.Moved.{awake_first, emitter_moved, moved_on}
use Rattle.rsx_graph_moves.proofs.hubs.take_in_many.Goals as goal

pub feed_many-requires-clause-place : goal.feed_many-requires-clause-place
feed_many-requires-clause-place g c = λ _ _. c.requires.place ∙ c.in-Some.is

pub accept_all-requires-clause-unfed : goal.accept_all-requires-clause-unfed
accept_all-requires-clause-unfed g c = λ _ _. unfed_there c.args.feeds.now.items c.args.hub.0 (c.requires.place ∙ c.in-None.is)

pub returns-in-None-clause-made : goal.returns-in-None-clause-made
returns-in-None-clause-made g c =
    let m = g.O.Ops.meaning c.args.ops.now in
    let h = c.args.hub in
    leads_by_lift (IsAccept g.N.Machine h.0) (IsHubMovedOn g.N.Machine g.N.Nodes m h.0) (λ r. r) (λ a b k. moved_on g.N.Machine g.N.Nodes m h.0 a b (emitter_moved g.N.Machine g.N.Nodes m h a b k.enabled k.effect)) c.accept_all.result
    (rows_of c.args.hubs.now.items c.args.feeds.now.items c.args.subscriptions.now.items) (rows_of c.accept_all.new.hubs.items c.accept_all.new.feeds.items c.accept_all.new.subscriptions.items) c.accept_all.ensures.made

pub returns-in-None-clause-awake : goal.returns-in-None-clause-awake
returns-in-None-clause-awake g c =
    let m = g.O.Ops.meaning c.args.ops.now in
    let h = c.args.hub in
    let old = rows_of c.args.hubs.now.items c.args.feeds.now.items c.args.subscriptions.now.items in
    let new = rows_of c.accept_all.new.hubs.items c.accept_all.new.feeds.items c.accept_all.new.subscriptions.items in
    awake_first g.N.Machine g.N.Nodes m h.0 c.accept_all.result old new (leads_by_lift (IsAccept g.N.Machine h.0) (IsHubMoved g.N.Machine g.N.Nodes m h.0) (λ r. r) (λ a b k. emitter_moved g.N.Machine g.N.Nodes m h a b k.enabled k.effect) c.accept_all.result old new c.accept_all.ensures.made)
