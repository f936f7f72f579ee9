-- Lists that may be empty, and what stands in front of a list.
use Rattle.std.specs.Prelude.{Bool, true, false, List, [], ◌∷◌}
use Rattle.rsx_types.specs.declared.signal.Signal.{Signal}
use Rattle.rsx_types.specs.declared.signal.Signal.TheVariants.{Next, Complete, Error}

-- whether a list is empty
abbrev pub is_nil : {A : Type 0} → List A → Bool
is_nil [] = true
is_nil (x ∷ xs) = false

-- whether an item is the first of these signals
abbrev pub is_item_first : {T : Type 0} → List (Signal T) → Bool
is_item_first [] = false
is_item_first (Next x ∷ ss) = true
is_item_first (Complete ∷ ss) = false
is_item_first (Error c ∷ ss) = false
