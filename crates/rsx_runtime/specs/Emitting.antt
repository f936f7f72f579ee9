-- What the calls of an emitter change, and when each of them is refused.
use Rattle.std.specs.Prelude.{◌≡◌, ◌<◌, true, false}
use Rattle.rsx_hub.specs.declared.refusal.Rejected.{Rejected}
use Rattle.rsx_hub.specs.declared.refusal.Rejected.TheVariants as rejected
use Rattle.rsx_link.specs.Ends.{SameUp, free_slots, items_sent, seen_total}
use Rattle.rsx_link.specs.declared.link.Link.{Link}
use Rattle.rsx_runtime.specs.declared.emitter.Emitter.{Emitter}
use Rattle.rsx_runtime.specs.declared.emitter.NotEnded.{NotEnded}
use Rattle.rsx_runtime.specs.declared.emitter.NotEnded.TheVariants as not_ended

module _ {T : Type 0} where
  -- the emitter of the same hub, over the same link; nothing was read of that
  abbrev pub KeepsEmitter : Link T → Emitter T → Emitter T → Type 0
  KeepsEmitter l old new = SameUp l old.up new.up × (new.hub ≡ old.hub) × (new.link ≡ old.link)

  -- An item is refused where the hub has ended; else where as many items were accepted as can be; and else only where the queue has no room.
  abbrev pub IsItemRefused : Emitter T → T → Emitter T → Rejected T → Type 0
  IsItemRefused old item new (rejected.Ended back) = (back ≡ item) × (old.ended ≡ true)
  IsItemRefused old item new (rejected.TooMany back) = (back ≡ item) × (old.ended ≡ false) × (items_sent old.up ≡ seen_total old.up)
  IsItemRefused old item new (rejected.Full back) = (back ≡ item) × (old.ended ≡ false) × (items_sent old.up < seen_total old.up) × (free_slots new.up ≡ 0)

  -- an ending is refused where the hub has ended, and else only where the queue has no room
  abbrev pub IsEndingRefused : Emitter T → Emitter T → NotEnded → Type 0
  IsEndingRefused old new not_ended.Ended = old.ended ≡ true
  IsEndingRefused old new not_ended.Full = (old.ended ≡ false) × (free_slots new.up ≡ 0)
