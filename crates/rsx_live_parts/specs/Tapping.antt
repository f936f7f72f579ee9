-- One tap among others, and what its calls change.
use Rattle.std.specs.Prelude.{◌≡◌, ◌++◌, ◌∷◌, ℕ, ℤ, true, false, List, [], Option, None, Some, IfNone, IfSome, slice_get, slice_set}
use Rattle.rsx_types.specs.declared.names.SubId.{SubId}
use Rattle.rsx_types.specs.declared.signal.Signal.{Signal}
use Rattle.rsx_link.specs.Ends.{Cancels, Requests, Waits, cancel_steps, down_steps, queued}
use Rattle.rsx_link.specs.Signals.{request_of}
use Rattle.rsx_runtime.specs.Standing.{asks, cancelled_state, gives, requested_state, signals_of, taken_state}
use Rattle.rsx_runtime.specs.Tapping.{SameSeat, given}
use Rattle.rsx_runtime.specs.declared.tap.Tap.{Tap}

-- the element at this place has become another one, in this way, and the others are as they were
pub record ChangesAt {X : Type 0} (place : ℕ) (old new : List X) (did : X → X → Type 0) : Type 0 where
  pub was : X
  pub now : X
  pub there : slice_get old place ≡ Some was
  pub put : new ≡ slice_set old place now
  pub done : did was now

module _ {T : Type 0} where
  -- the subscription has no tap among these
  abbrev pub HasNoTap : SubId → List (Tap T) → Type 0
  HasNoTap sub ts = (k : ℕ) (t : Tap T) → slice_get ts k ≡ Some t → t.sub ≡ sub → ⊥

  -- a tap of the subscription has changed, in this way, and the others are as they were
  pub record TapChanges (sub : SubId) (old new : List (Tap T)) (did : Tap T → Tap T → Type 0) : Type 0 where
    pub place : ℕ
    pub changes : ChangesAt place old new did
    pub named : changes.was.sub ≡ sub

  -- it gave the next signal, if one waited
  pub record Takes (result : Option (Signal T)) (old new : Tap T) : Type 0 where
    pub seat : SameSeat old new
    pub asked : down_steps new.down ≡ down_steps old.down
    pub some : IfSome result (λ s. (gives old.state ≡ true) × (given new ≡ given old ++ s ∷ []) × (new.state ≡ taken_state s old.state))
    pub none : IfNone result ((given new ≡ given old) × (new.state ≡ old.state) × (gives old.state ≡ true → Waits new.down (queued new.down)))
    pub still : gives old.state ≡ false → new ≡ old

  -- it requested so many items more, and gave the error of a bad request
  pub record TapRequests (n : ℤ) (result : Option (Signal T)) (old new : Tap T) : Type 0 where
    pub seat : SameSeat old new
    pub asked : asks old.state ≡ true → Requests (request_of n) (down_steps old.down) (down_steps new.down) result
    pub gave : given new ≡ given old ++ signals_of result
    pub state : asks old.state ≡ true → new.state ≡ requested_state (request_of n) result old.state
    pub still : asks old.state ≡ false → (result ≡ None) × (new ≡ old)

  -- it cancelled
  pub record TapCancels (old new : Tap T) : Type 0 where
    pub down : new.down ≡ old.down
    pub cancellers : new.cancellers ≡ old.cancellers
    pub cancelled : asks old.state ≡ true → Cancels old.seat (cancel_steps new.seat)
    pub gave : given new ≡ given old
    pub state : new.state ≡ cancelled_state old.state
    pub still : asks old.state ≡ false → new ≡ old
