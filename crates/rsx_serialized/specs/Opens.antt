-- Links of emitters and taps, as they are opened.
use Rattle.std.specs.Prelude.{◌≡◌, ℕ, Bool, false, [], ◌∷◌, None, min}
use Rattle.rsx_demand.specs.declared.TheConstants.{UNBOUNDED}
use Rattle.rsx_types.specs.declared.limits.TheConstants.{CAPACITY}
use Rattle.rsx_types.specs.declared.names.HubId.{HubId}
use Rattle.rsx_types.specs.declared.names.SubId.{SubId}
use Rattle.rsx_link.specs.Ends.{IsCancelSeatOf, IsDownOf, IsUpOf, asked_total, cancel_beside, cancel_parts, cancel_steps, capacity_of, carried_down, carried_up, items_sent, received_signals, seen_total, sent_signals}
use Rattle.rsx_runtime.specs.Standing.{opened_state}
use Rattle.rsx_runtime.specs.Tapping.{IsTapOf, given}
use Rattle.rsx_serialized.specs.Ends.{IsPassedOn, is_flagged}
use Rattle.rsx_serialized.specs.declared.links.EmitterLink.{EmitterLink}
use Rattle.rsx_serialized.specs.declared.links.TapLink.{TapLink}

module _ {T : Type 0} where
  -- An emitter of this hub, and the end that takes from it, over one link, over which nothing was sent. As many items were accepted as this
  -- says, and 2^63 - 1 may be.
  pub record IsEmitterLink (hub : HubId) (number accepted : ℕ) (over : Bool) (o : EmitterLink T) : Type 0 where
    pub names : (o.emitter.hub ≡ hub) × (o.emitter.link ≡ number) × (o.emitter.ended ≡ over)
    pub sends : IsUpOf o.link o.emitter.up × (sent_signals o.emitter.up ≡ [])
    pub counts : (items_sent o.emitter.up ≡ min UNBOUNDED accepted) × (seen_total o.emitter.up ≡ UNBOUNDED)
    pub takes : IsDownOf o.link o.inlet.down × (received_signals o.inlet.down ≡ []) × (o.inlet.waiting ≡ None) × (o.inlet.hub ≡ hub)
    pub seat : IsCancelSeatOf o.link o.inlet.seat
    pub room : capacity_of o.link ≡ CAPACITY

  -- A tap of this subscription, and the end that sends to it, over one link. The tap gave nothing and cancelled nothing, and nothing was sent
  -- to it. So much was asked for, and no flag was seen.
  pub record IsTapLink (sub : SubId) (number total : ℕ) (is_open : Bool) (o : TapLink T) : Type 0 where
    pub names : (o.tap.sub ≡ sub) × (o.tap.link ≡ number)
    pub takes : IsTapOf o.link o.tap × (given o.tap ≡ []) × (o.tap.state ≡ opened_state is_open)
    pub asked : (asked_total o.tap.down ≡ total) × (o.outlet.asked ≡ total)
    pub seat : (cancel_parts o.tap.seat ≡ 0 ∷ []) × (cancel_steps o.tap.seat ≡ []) × (cancel_beside o.tap.seat ≡ [])
    pub sends : IsUpOf o.link o.outlet.up × (sent_signals o.outlet.up ≡ [])
    pub passed : IsPassedOn o.outlet × (is_flagged o.outlet.up ≡ false)
    pub carried : carried_down o.tap.down ≡ carried_up o.outlet.up
    pub room : capacity_of o.link ≡ CAPACITY
