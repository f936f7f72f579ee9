-- What the calls of a graph's hubs change.
use Rattle.std.specs.Prelude.{◌≡◌, ℕ, Bool, true, false, ◌||◌, List, [], ◌∷◌, Some, is_some, slice_get, slice_set}
use Rattle.rsx_types.specs.declared.signal.Ending.{Ending}
use Rattle.rsx_hub.specs.Hub.{HubState, accepts_items, emitted, ended_with, waiting}
use Rattle.rsx_hub.specs.Waiting.{is_open}

-- the hub with this number accepted an item, and no other one changed
pub record IsEmittedAt {T : Type 0} (i : ℕ) (item : T) (hubs news : List (HubState T)) : Type 0 where
  pub hub : HubState T
  pub there : slice_get hubs i ≡ Some hub
  pub accepts : accepts_items hub ≡ true
  pub others : news ≡ slice_set hubs i (emitted hub item)

-- the hub with this number ended so, and no other one changed
pub record IsEndedAt {T : Type 0} (i : ℕ) (e : Ending) (hubs news : List (HubState T)) : Type 0 where
  pub hub : HubState T
  pub there : slice_get hubs i ≡ Some hub
  pub goes_on : is_open hub.ending ≡ true
  pub others : news ≡ slice_set hubs i (ended_with hub e)

-- a signal waits in the inbox of one of these hubs
abbrev pub signals_wait : {T : Type 0} → List (HubState T) → Bool
signals_wait [] = false
signals_wait (h ∷ hs) = is_some (waiting h) || signals_wait hs
