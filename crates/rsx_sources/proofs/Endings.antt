-- Signals in which an ending stands.
use Rattle.std.proofs.Common.{◌≡◌, true, List, [], ◌∷◌, slice_get, Some, None, refl, ap}
use Rattle.rsx_types.specs.declared.signal.Signal.{Signal}
use Rattle.rsx_types.specs.declared.signal.Signal.TheVariants.{Next, Complete, Error}
use Rattle.rsx_types.specs.Stream.{Stream, item_then, signals_then}
use Rattle.rsx_sources.specs.Counts.{ends_input}
use Rattle.rsx_sources.specs.Endings.{has_ending}

-- what follows them doesn't matter
pub ending_cuts : {T : Type 0} (ss : List (Signal T)) (v w : Stream T) → has_ending ss ≡ true → signals_then ss v ≡ signals_then ss w
ending_cuts [] v w h = cc
ending_cuts (Next x ∷ ss) v w h = ap (item_then x) (ending_cuts ss v w h)
ending_cuts (Complete ∷ ss) v w h = refl
ending_cuts (Error c ∷ ss) v w h = refl

-- one stands in front
pub ending_first : {T : Type 0} (ss : List (Signal T)) (s : Signal T) → slice_get ss 0 ≡ Some s → ends_input s ≡ true → has_ending ss ≡ true
ending_first [] s w e = cc
ending_first (Next x ∷ ss) s w e = cc
ending_first (Complete ∷ ss) s w e = refl
ending_first (Error c ∷ ss) s w e = refl

-- so some signal does
pub ending_waits : {T : Type 0} (ss : List (Signal T)) → has_ending ss ≡ true → slice_get ss 0 ≡ None → ⊥
ending_waits [] e none = cc
ending_waits (s ∷ ss) e none = cc
