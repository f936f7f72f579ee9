-- What still comes out of the lanes, computed over copies.
use Rattle.std.specs.Prelude.{ℕ, List, [], ◌∷◌}
use Rattle.rsx_values.specs.Prelude.{Stream, see}
use Rattle.rsx_grouping.specs.declared.rest.KeyedItems.{KeyedItems}

-- the items with their keys, and how they end
abbrev pub keyed_value : {T : Type 0} → KeyedItems T → Stream (ℕ × T)
keyed_value k = record { items = k.items.items; ending = k.ending }

-- the keys that were seen, after these
abbrev pub see_all : List ℕ → List ℕ → List ℕ
see_all seen [] = seen
see_all seen (k ∷ ks) = see_all (see seen k) ks
