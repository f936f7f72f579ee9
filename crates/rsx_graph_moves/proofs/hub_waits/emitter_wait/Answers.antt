use Rattle.std.proofs.Common.{◌≡◌, ◌∙◌, ap, subst, sym, true, ℕ, Some}
use Rattle.rsx_sources.specs.declared.machine.Front.TheVariants.{Completion, Failure}
use Rattle.rsx_graph_state.specs.Publishing.{all_have_room}
use Rattle.rsx_hub.specs.Hub.{waiting}
use Rattle.rsx_graph_moves.specs.Hubs.{IsFull}
use Rattle.rsx_graph_moves.proofs.HubWaits.{ending_ready, held_there, item_ready, nothing_there, ready_there}
use Rattle.rsx_graph_moves.proofs.hub_waits.emitter_wait.Goals as goal

pub returns-in-None : goal.returns-in-None
returns-in-None g c = λ m hubs there. nothing_there g.N.Machine g.N.Nodes m hubs c.args.feeds.now c.args.subscriptions.now c.args.hub c.args.state.now c.requires.unfed (sym c.in-None.is ∙ c.front.ensures)

pub returns-in-Some : goal.returns-in-Some
returns-in-Some g c = λ m hubs there.
    let F : ℕ → Type 0 = λ k. IsFull g.N.Machine c.args.feeds.now c.args.subscriptions.now k c.in-Some.tree in
    held_there g.N.Machine g.N.Nodes m hubs c.args.feeds.now c.args.subscriptions.now c.args.hub c.args.state.now c.in-Some.tree c.requires.unfed (sym (c.in-Some-Item.is ∙ ap Some c.in-Some-Item.field-0-is) ∙ c.front.ensures) (subst F c.from.ensures c.in-Some.ensures.some)

pub returns-in-None-first_full : goal.returns-in-None-first_full
returns-in-None-first_full g c = λ m hubs there.
    let F : ℕ → Type 0 = λ k. all_have_room g.N.Machine k c.args.feeds.now c.args.subscriptions.now ≡ true in
    ready_there g.N.Machine g.N.Nodes m hubs c.args.feeds.now c.args.subscriptions.now c.args.hub c.args.state.now c.requires.unfed c.requires.small there
    (item_ready (waiting c.args.state.now) _ (sym (c.in-Some-Item.is ∙ ap Some c.in-Some-Item.field-0-is) ∙ c.front.ensures) (subst F c.from.ensures c.in-None-first_full.ensures.none))

pub returns-in-Some-Completion : goal.returns-in-Some-Completion
returns-in-Some-Completion g c = λ m hubs there.
    ready_there g.N.Machine g.N.Nodes m hubs c.args.feeds.now c.args.subscriptions.now c.args.hub c.args.state.now c.requires.unfed c.requires.small there
    (ending_ready (waiting c.args.state.now) Completion _ (λ e. cc) (sym (c.in-Some-Completion.is ∙ ap Some c.in-Some-Completion.field-0-is) ∙ c.front.ensures))

pub returns-in-Some-Failure : goal.returns-in-Some-Failure
returns-in-Some-Failure g c = λ m hubs there.
    ready_there g.N.Machine g.N.Nodes m hubs c.args.feeds.now c.args.subscriptions.now c.args.hub c.args.state.now c.requires.unfed c.requires.small there
    (ending_ready (waiting c.args.state.now) (Failure c.in-Some-Failure.field-0-0) _ (λ e. cc) (sym (c.in-Some-Failure.is ∙ ap Some c.in-Some-Failure.field-0-is) ∙ c.front.ensures))
