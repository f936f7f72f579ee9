use Rattle.std.proofs.Common.{◌≡◌, ◌∙◌, Bool, false, sym, true}
use Rattle.std.specs.Prelude.{IfNone, IfSome}
use Rattle.rsx_hub.specs.Hub.{waiting}
use Rattle.rsx_graph_state.specs.Publishing.{all_have_room}
use Rattle.rsx_graph_state.proofs.Ready.{none_ready, waits_ready}
use Rattle.rsx_graph_state.proofs.publishing.ready_readers.Goals as goal

pub returns-in-Some-clause-enabled : goal.returns-in-Some-clause-enabled
returns-in-Some-clause-enabled g c =
    let P : Bool → Type 0 = λ b. IfSome c.readers_for.result (λ n. b ≡ true) in
    waits_ready P (waiting c.args.hub.now) c.in-Some.front (all_have_room g.N.Machine c.args.number c.args.feeds.now c.args.subscriptions.now) (sym c.front.ensures ∙ c.in-Some.is) c.readers_for.ensures.enabled

pub returns-in-Some-clause-none : goal.returns-in-Some-clause-none
returns-in-Some-clause-none g c =
    let P : Bool → Type 0 = λ b. IfNone c.readers_for.result (b ≡ false) in
    waits_ready P (waiting c.args.hub.now) c.in-Some.front (all_have_room g.N.Machine c.args.number c.args.feeds.now c.args.subscriptions.now) (sym c.front.ensures ∙ c.in-Some.is) c.readers_for.ensures.none

pub returns-in-None-clause-none : goal.returns-in-None-clause-none
returns-in-None-clause-none g c = sym (none_ready (waiting c.args.hub.now) (all_have_room g.N.Machine c.args.number c.args.feeds.now c.args.subscriptions.now) (sym c.front.ensures ∙ c.in-None.is))
