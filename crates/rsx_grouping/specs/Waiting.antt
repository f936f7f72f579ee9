-- Items that wait.
use Rattle.std.specs.Prelude.{List, [], ◌∷◌, reverse, Option, Some, None}

-- the oldest item, and those behind it, of which the last one stands first
abbrev pub waiting_of : {T : Type 0} → Option T → List T → List T
waiting_of None behind = []
waiting_of (Some x) behind = x ∷ reverse behind
