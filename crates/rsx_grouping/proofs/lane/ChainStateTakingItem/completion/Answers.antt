use Rattle.std.proofs.Common.{refl, ap, sym, ◌∙◌, Some, slice_get}
use Rattle.rsx_types.specs.declared.signal.Signal.TheVariants.{Next}
use Rattle.rsx_grouping.proofs.Lanes.{completes_with_item, completes_at_once, ended_goes_on}
use Rattle.rsx_grouping.specs.Lane.{state_ended, ending_signal}
use Rattle.rsx_grouping.specs.declared.lane.LaneState.TheVariants.{Gone}
use Rattle.rsx_grouping.proofs.lane.ChainStateTakingItem.completion.Goals as goal

pub returns-in_ok-tagged-in-Some-clause-ok : goal.returns-in_ok-tagged-in-Some-clause-ok
returns-in_ok-tagged-in-Some-clause-ok g c =
    completes_with_item (g.O.Ops.meaning c.args.ops.now) c.args.key c.args.self.now c.new-done.result c.in_ok-value.value c.in-Some.item
    (record { state = c.state_ended-state.result; waiting = c.pop.new.self })
    (record { signal = Next c.in_ok-tagged-in-Some.tagged; lane = Some (record { state = c.state_ended-state.result; waiting = c.pop.new.self }) })
    (c.new-done.ensures.items ∙ c.new.ensures.items) c.new-done.ensures.ending c.in_ok-value.ensures
    (sym c.into_items.ensures ∙ sym c.of-waiting.ensures ∙ c.in-Some.ensures.left)
    (c.state_ended-state.ensures ∙ ap state_ended c.ending-ending.ensures)
    (ap Next c.in_ok-tagged-in-Some.ensures.answer) refl

pub returns-in_ok-tagged-in-Some-clause-goes_on : goal.returns-in_ok-tagged-in-Some-clause-goes_on
returns-in_ok-tagged-in-Some-clause-goes_on g c = ended_goes_on c.ending-ending.result c.state_ended-state.result c.state_ended-state.ensures

pub returns-in-None-clause-ok : goal.returns-in-None-clause-ok
returns-in-None-clause-ok g c =
    completes_at_once (g.O.Ops.meaning c.args.ops.now) c.args.key c.args.self.now c.new-done.result c.in_ok-value.value
    (record { state = Gone; waiting = c.pop.new.self })
    (record { signal = c.ending_signal.result; lane = Some (record { state = Gone; waiting = c.pop.new.self }) })
    (c.new-done.ensures.items ∙ c.new.ensures.items) c.new-done.ensures.ending c.in_ok-value.ensures
    (c.in-None.ensures.item ∙ ap (λ ws. slice_get ws 0) (c.of-waiting.ensures ∙ c.into_items.ensures)) refl (c.ending_signal.ensures ∙ ap ending_signal c.ending-ending.ensures) refl
