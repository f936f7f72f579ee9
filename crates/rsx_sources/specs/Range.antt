-- What still comes out of a range.
use Rattle.std.specs.Prelude.{◌≡◌, ℕ, ℤ, pos, ◌+◌, ◌-◌, ◌+ℤ◌, Bool, List, [], ◌∷◌, map, Option, Some, option_map, refl}
use Rattle.std.proofs.Common.{ap}
use Rattle.std.specs.List.{range_with_len}
use Rattle.rsx_types.specs.declared.note.Note.{Note}
use Rattle.rsx_types.specs.declared.signal.Signal.{Signal}
use Rattle.rsx_types.specs.declared.signal.Signal.TheVariants.{Next, Complete, Error}
use Rattle.rsx_types.specs.Meaning.{Meaning, Allocates}
use Rattle.rsx_types.specs.Plain.{listed, range_items}
use Rattle.rsx_types.specs.Stream.{Stream}
use Rattle.rsx_sources.specs.Machine.{Incoming, quiet, first_of, front_of}
use Rattle.rsx_sources.specs.declared.machine.Front.{Front}
use Rattle.rsx_sources.specs.declared.range.RangeNode.{RangeNode}

-- the items of the numbers first + at, first + at + 1, .. up to first + count, which is left out
abbrev pub range_from : {T : Type 0} → Meaning T → ℤ → ℕ → ℕ → List T
range_from m first at count = map (λ k. m.number (first +ℤ pos k)) (range_with_len at (count - at))

-- the items of the numbers that are left
abbrev pub range_left : {T : Type 0} → Meaning T → RangeNode T → List T
range_left m n = range_from m n.first n.at n.count

-- they still come out, and then the completion
abbrev pub range_comes_out : {T : Type 0} → Meaning T → RangeNode T → Incoming T → Note → Option (Stream T)
range_comes_out m n inc further = quiet further (listed (range_left m n))

-- the numbers of this range come out, and then the completion
abbrev pub GivesRange : {T : Type 0} → RangeNode T → ℤ → ℕ → Type 0
GivesRange {T} n first count = (m : Meaning T) (inc : Incoming T) (further : Note) → range_comes_out m n inc further ≡ quiet further (listed (range_items m first count))

-- the item of the next number waits, or else the completion
abbrev pub range_waiting : {T : Type 0} → Meaning T → RangeNode T → Option (Signal T)
range_waiting m n = Some (first_of (range_left m n))

-- which of the two it is: an item while there are numbers left
abbrev pub range_shown : {T : Type 0} → RangeNode T → Option Front
range_shown n = Some (front_of (first_of (range_with_len n.at (n.count - n.at))))

first_mapped : {A B : Type 0} (f : A → B) (xs : List A) → front_of (first_of xs) ≡ front_of (first_of (map f xs))
first_mapped f [] = refl
first_mapped f (x ∷ xs) = refl

pub range_shows : {T : Type 0} (m : Meaning T) (n : RangeNode T) → range_shown n ≡ option_map front_of (range_waiting m n)
range_shows m n = ap Some (first_mapped (λ k. m.number (n.first +ℤ pos k)) (range_with_len n.at (n.count - n.at)))

-- an item leaves the range; the completion leaves all as it is
abbrev pub range_popped : {T : Type 0} → RangeNode T → Signal T → RangeNode T → Type 0
range_popped old (Next x) new = (new.first ≡ old.first) × (new.count ≡ old.count) × (new.at ≡ old.at + 1)
range_popped old Complete new = new ≡ old
range_popped old (Error c) new = ⊥

-- a range makes its items when they are taken out
abbrev pub range_pop_allocates : {T : Type 0} → Allocates → RangeNode T → Bool
range_pop_allocates a n = a.number
