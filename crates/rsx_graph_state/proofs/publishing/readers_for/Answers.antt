use Rattle.std.proofs.Common.{◌≡◌, ◌∙◌, Bool, false, subst, sym, true}
use Rattle.std.specs.Prelude.{IfNone, IfSome}
use Rattle.rsx_graph_state.specs.Publishing.{all_have_room}
use Rattle.rsx_graph_state.proofs.Ready.{completion_room, failure_room, item_room}
use Rattle.rsx_graph_state.proofs.publishing.readers_for.Goals as goal

pub returns-in-Item-clause-enabled : goal.returns-in-Item-clause-enabled
returns-in-Item-clause-enabled g c = λ s e.
    let P : Bool → Type 0 = λ b. IfSome c.all_with_room.result (λ n. b ≡ true) in
    subst P (sym (item_room s (all_have_room g.N.Machine c.args.number c.args.feeds.now c.args.subscriptions.now) (sym c.in-Item.is ∙ e))) c.all_with_room.ensures.enabled

pub returns-in-Item-clause-none : goal.returns-in-Item-clause-none
returns-in-Item-clause-none g c = λ s e.
    let P : Bool → Type 0 = λ b. IfNone c.all_with_room.result (b ≡ false) in
    subst P (sym (item_room s (all_have_room g.N.Machine c.args.number c.args.feeds.now c.args.subscriptions.now) (sym c.in-Item.is ∙ e))) c.all_with_room.ensures.none

pub returns-in-Completion-clause-enabled : goal.returns-in-Completion-clause-enabled
returns-in-Completion-clause-enabled g c = λ s e. completion_room s (all_have_room g.N.Machine c.args.number c.args.feeds.now c.args.subscriptions.now) (sym c.in-Completion.is ∙ e)

pub returns-in-Failure-clause-enabled : goal.returns-in-Failure-clause-enabled
returns-in-Failure-clause-enabled g c = λ s e. failure_room s c.in-Failure.field-0 (all_have_room g.N.Machine c.args.number c.args.feeds.now c.args.subscriptions.now) (sym c.in-Failure.is ∙ e)
