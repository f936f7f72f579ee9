-- What the calls of a list of numbered lanes answer.
use Rattle.std.specs.Prelude.{◌≡◌, ℕ, ◌+◌, ◌^◌, ◌<◌, Bool, true, false, List, [], ◌∷◌, length, slice_index_or, ⊤, Option, Some, None, option_map}
use Rattle.rsx_types.specs.declared.signal.Signal.{Signal}
use Rattle.rsx_types.specs.declared.signal.Signal.TheVariants.{Next, Complete, Error}
use Rattle.rsx_demand.specs.Demand.{saturating_total}
use Rattle.rsx_sources.specs.Machine.{front_of}
use Rattle.rsx_sources.specs.declared.machine.Front.{Front}
use Rattle.rsx_sources.specs.declared.machine.Front.TheVariants.{Item, Completion, Failure}
use Rattle.rsx_values.specs.Pick.{InputLeft, next_of}
use Rattle.rsx_values.specs.Steps.{TakesNext}
use Rattle.rsx_values.proofs.Places.{given_at}
use Rattle.rsx_plain.specs.Moves.{has_ending}

-- how many items are among these signals
abbrev pub items_in : {T : Type 0} → List (Signal T) → ℕ
items_in [] = 0
items_in (Next x ∷ ss) = 1 + items_in ss
items_in (Complete ∷ ss) = items_in ss
items_in (Error c ∷ ss) = items_in ss

-- how many items wait in these lanes, beside so many others: at most 2^63-1
abbrev pub waiting_after : {T : Type 0} → ℕ → List (InputLeft T) → ℕ
waiting_after n [] = n
waiting_after n (i ∷ is) = waiting_after (saturating_total n (items_in i.1)) is

-- which signal is next in the lane with this number, if there is one
abbrev pub next_front : {T : Type 0} → ℕ → List (InputLeft T) → Option Front
next_front c is = option_map (λ p. front_of p.0) (next_of c is)

-- the first lane with the number c is at this place, and a choice takes its next signal; where there is none, the choice finds nothing
abbrev pub IsPlaceOf : {T : Type 0} → ℕ → List (InputLeft T) → Option ℕ → Type 0
IsPlaceOf c is None = next_of c is ≡ None
IsPlaceOf {T} c is (Some k) = (k < length is) × ((i : InputLeft T) → slice_index_or is k i ≡ i → next_of c is ≡ given_at is k i.0 i.1)

-- the choice took this item, and left these inputs
abbrev pub TakesItem : {T : Type 0} → ℕ → List (InputLeft T) → Option T → List (InputLeft T) → Type 0
TakesItem c old None new = ⊥
TakesItem c old (Some x) new = TakesNext c old (Some (Next x)) new

-- whether it may be taken: an item only where one more may be sent
abbrev pub may_take : Option Front → Bool → Bool
may_take None items = false
may_take (Some Item) items = items
may_take (Some Completion) items = true
may_take (Some (Failure c)) items = true

-- each lane has a number of 64 bits, and its ending is in it
abbrev pub AreWhole : {T : Type 0} → List (InputLeft T) → Type 0
AreWhole [] = ⊤
AreWhole (i ∷ is) = (i.0 < 2 ^ 64) × (has_ending i.1 ≡ true) × AreWhole is
