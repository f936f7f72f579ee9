-- Lists of signals, and requests.
use Rattle.std.specs.Prelude.{ℕ, ℤ, pos, negsuc, zero, suc, ◌+◌, Bool, true, false, cond, List, [], ◌∷◌, Option, Some, None}
use Rattle.rsx_types.specs.declared.signal.Signal.{Signal}
use Rattle.rsx_types.specs.declared.signal.Signal.TheVariants.{Next, Complete, Error}

module _ {T : Type 0} where
  -- the others are endings
  abbrev pub is_item : Signal T → Bool
  is_item (Next x) = true
  is_item Complete = false
  is_item (Error c) = false

  -- how many of the signals are items
  abbrev pub items_in : List (Signal T) → ℕ
  items_in [] = 0
  items_in (s ∷ ss) = cond (is_item s) 1 0 + items_in ss

-- the items that a request asks for; a bad request asks for none
abbrev pub request_of : ℤ → Option ℕ
request_of (pos zero) = None
request_of (pos (suc n)) = Some (suc n)
request_of (negsuc n) = None
