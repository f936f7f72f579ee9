-- One thread drives a graph behind its gate: what its calls change.
use Rattle.std.specs.Prelude.{◌≡◌, ◌<◌, ◌++◌, ◌∷◌, ℕ, ℤ, true, false, List, [], Option, None, Some, Result, Ok, Err, IfErr, IfNone, IfSome, IsOk, OnErr, OnOk, slice_get, slice_set}
use Rattle.rsx_types.specs.declared.names.HubId.{HubId}
use Rattle.rsx_types.specs.declared.signal.Signal.{Signal}
use Rattle.rsx_types.specs.declared.signal.Signal.TheVariants.{Next}
use Rattle.rsx_hub.specs.declared.refusal.Rejected.{Rejected}
use Rattle.rsx_link.specs.Ends.{Cancels, Requests, Waits, cancel_steps, down_steps, free_slots, items_sent, queued, seen_total, sent_signals}
use Rattle.rsx_link.specs.Signals.{request_of}
use Rattle.rsx_runtime.specs.Emitting.{IsEndingRefused, IsItemRefused}
use Rattle.rsx_runtime.specs.Standing.{asks, cancelled_state, gives, requested_state, signals_of, taken_state}
use Rattle.rsx_runtime.specs.Tapping.{SameSeat, given}
use Rattle.rsx_runtime.specs.declared.emitter.Emitter.{Emitter}
use Rattle.rsx_runtime.specs.declared.emitter.NotEnded.{NotEnded}
use Rattle.rsx_runtime.specs.declared.tap.Tap.{Tap}
use Rattle.rsx_serialized.specs.declared.driven.NoEnding.{NoEnding}
use Rattle.rsx_serialized.specs.declared.driven.NoEnding.TheVariants as no_ending
use Rattle.rsx_serialized.specs.declared.driven.NotPublished.{NotPublished}
use Rattle.rsx_serialized.specs.declared.driven.NotPublished.TheVariants as not_published

-- the element at this place has become another one, in this way, and the others are as they were
pub record ChangesAt {X : Type 0} (place : ℕ) (old new : List X) (did : X → X → Type 0) : Type 0 where
  pub was : X
  pub now : X
  pub there : slice_get old place ≡ Some was
  pub put : new ≡ slice_set old place now
  pub done : did was now

module _ {T : Type 0} where
  -- ---- emitters

  -- none of these is the hub's
  abbrev pub HasNoEmitter : HubId → List (Emitter T) → Type 0
  HasNoEmitter hub es = (k : ℕ) (e : Emitter T) → slice_get es k ≡ Some e → e.hub ≡ hub → ⊥

  -- the hub's has changed, in this way, and the others are as they were
  pub record EmitterChanges (hub : HubId) (old new : List (Emitter T)) (did : Emitter T → Emitter T → Type 0) : Type 0 where
    pub place : ℕ
    pub changes : ChangesAt place old new did
    pub named : changes.was.hub ≡ hub

  -- it published the item, or it did not
  pub record Emits (item : T) (result : Result Unit (Rejected T)) (old new : Emitter T) : Type 0 where
    pub ok : OnOk result (sent_signals new.up ≡ sent_signals old.up ++ Next item ∷ [])
    pub enabled : OnOk result ((old.ended ≡ false) × (items_sent old.up < seen_total old.up))
    pub still : new.ended ≡ old.ended
    pub same : OnErr result (sent_signals new.up ≡ sent_signals old.up)
    pub err : IfErr result (IsItemRefused old item new)
    pub succeeds : 0 < free_slots old.up → old.ended ≡ false → items_sent old.up < seen_total old.up → IsOk result

  -- it published the ending, or it did not
  pub record Ends (signal : Signal T) (result : Result Unit NotEnded) (old new : Emitter T) : Type 0 where
    pub ok : OnOk result ((sent_signals new.up ≡ sent_signals old.up ++ signal ∷ []) × (new.ended ≡ true))
    pub enabled : OnOk result (old.ended ≡ false)
    pub same : OnErr result ((sent_signals new.up ≡ sent_signals old.up) × (new.ended ≡ old.ended))
    pub err : IfErr result (IsEndingRefused old new)
    pub succeeds : 0 < free_slots old.up → old.ended ≡ false → IsOk result

  -- the hub's emitter published the item or did not, or it has none
  abbrev pub IsEmitted : HubId → T → Result Unit (NotPublished T) → List (Emitter T) → List (Emitter T) → Type 0
  IsEmitted hub item (Ok done) old new = EmitterChanges hub old new (Emits item (Ok done))
  IsEmitted hub item (Err (not_published.Rejected why)) old new = EmitterChanges hub old new (Emits item (Err why))
  IsEmitted hub item (Err (not_published.NoEmitter back)) old new = (back ≡ item) × HasNoEmitter hub old × (new ≡ old)

  -- it published the ending or did not, or it has none
  abbrev pub IsEnded : HubId → Signal T → Result Unit NoEnding → List (Emitter T) → List (Emitter T) → Type 0
  IsEnded hub signal (Ok done) old new = EmitterChanges hub old new (Ends signal (Ok done))
  IsEnded hub signal (Err (no_ending.Refused why)) old new = EmitterChanges hub old new (Ends signal (Err why))
  IsEnded hub signal (Err no_ending.NoEmitter) old new = HasNoEmitter hub old × (new ≡ old)

  -- ---- taps

  -- it gave the next signal, if one waited
  pub record Takes (result : Option (Signal T)) (old new : Tap T) : Type 0 where
    pub seat : SameSeat old new
    pub asked : down_steps new.down ≡ down_steps old.down
    pub some : IfSome result (λ s. (gives old.state ≡ true) × (given new ≡ given old ++ s ∷ []) × (new.state ≡ taken_state s old.state))
    pub none : IfNone result ((given new ≡ given old) × (new.state ≡ old.state) × (gives old.state ≡ true → Waits new.down (queued new.down)))
    pub still : gives old.state ≡ false → new ≡ old

  -- it requested so many items more, and gave the error of a bad request
  pub record TapRequests (n : ℤ) (result : Option (Signal T)) (old new : Tap T) : Type 0 where
    pub seat : SameSeat old new
    pub asked : asks old.state ≡ true → Requests (request_of n) (down_steps old.down) (down_steps new.down) result
    pub gave : given new ≡ given old ++ signals_of result
    pub state : asks old.state ≡ true → new.state ≡ requested_state (request_of n) result old.state
    pub still : asks old.state ≡ false → (result ≡ None) × (new ≡ old)

  -- it cancelled
  pub record TapCancels (old new : Tap T) : Type 0 where
    pub down : new.down ≡ old.down
    pub cancellers : new.cancellers ≡ old.cancellers
    pub cancelled : asks old.state ≡ true → Cancels old.seat (cancel_steps new.seat)
    pub gave : given new ≡ given old
    pub state : new.state ≡ cancelled_state old.state
    pub still : asks old.state ≡ false → new ≡ old
