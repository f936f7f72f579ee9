-- Lists of signals: whether an ending is among them, and whether something follows it.
use Rattle.std.specs.Prelude.{Bool, true, false, List, [], ◌∷◌}
use Rattle.rsx_types.specs.declared.signal.Signal.{Signal}
use Rattle.rsx_types.specs.declared.signal.Signal.TheVariants.{Next, Complete, Error}

module _ {T : Type 0} where
  -- no ending is among them
  abbrev pub is_unended : List (Signal T) → Bool
  is_unended [] = true
  is_unended (Next x ∷ ss) = is_unended ss
  is_unended (Complete ∷ ss) = false
  is_unended (Error c ∷ ss) = false

  abbrev pub is_none : List (Signal T) → Bool
  is_none [] = true
  is_none (s ∷ ss) = false

  -- nothing follows an ending
  abbrev pub is_orderly : List (Signal T) → Bool
  is_orderly [] = true
  is_orderly (Next x ∷ ss) = is_orderly ss
  is_orderly (Complete ∷ ss) = is_none ss
  is_orderly (Error c ∷ ss) = is_none ss
