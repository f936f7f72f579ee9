-- What is taken out of the places once they are closed.
use Rattle.std.specs.Prelude.{◌≡◌, ℕ, ◌<◌, Bool, false, cond, get_or, List, length, Some, slice_get}
use Rattle.rsx_link.specs.declared.place.Place.{Place}
use Rattle.rsx_link.specs.declared.place.Place.TheVariants.{Taken}

module _ {E P : Type 0} where
  -- of the first n places: what was there, but where it was collected
  abbrev pub IsTakenBelow : ℕ → List Bool → List (Place E P) → List (Place E P) → Type 0
  IsTakenBelow n taken places left = (length left ≡ n) × ((k : ℕ) → k < n → slice_get left k ≡ Some (cond (get_or taken k false) Taken (get_or places k Taken)))

  abbrev pub IsTakenOut : List Bool → List (Place E P) → List (Place E P) → Type 0
  IsTakenOut taken = IsTakenBelow (length taken) taken
