-- window: the input cut into windows of so many items, each through a chain of its own.
use Rattle.std.specs.Prelude.{ℕ, ◌+◌, nat_le, if◌then◌else◌, List, [], ◌∷◌, ◌++◌, length, map}
use Rattle.rsx_types.specs.declared.signal.Ending.{Ending}
use Rattle.rsx_types.specs.declared.stage.Stage.{Stage}
use Rattle.rsx_types.specs.Meaning.{Meaning}
use Rattle.rsx_types.specs.Plain.{chained, listed}
use Rattle.rsx_types.specs.Stream.{Stream, ended_by}
use Rattle.rsx_values.specs.Concat.{concat}

-- the last window, of the items that are left: it has the input's ending, and where there are none there is no such window
abbrev pub last_window : {T : Type 0} → List T → Ending → List (Stream T)
last_window [] e = []
last_window (x ∷ xs) e = record { items = x ∷ xs; ending = e } ∷ []

-- windows of n items, where one is started by these; a full one is Done
abbrev pub windows : {T : Type 0} → ℕ → List T → List T → Ending → List (Stream T)
windows n started [] e = last_window started e
windows n started (x ∷ xs) e =
    if nat_le n (length started + 1) then listed (started ++ x ∷ []) ∷ windows n [] xs e
    else windows n (started ++ x ∷ []) xs e

-- Main behind the windows
abbrev pub windows_and_main : {T : Type 0} → (Stream T → Stream T) → List (Stream T) → Ending → List (Stream T)
windows_and_main lane ws e = map lane ws ++ ended_by e ∷ []

-- one window behind the other, each through the chain, and Main behind them
abbrev pub window : {T : Type 0} → Meaning T → ℕ → List (Stage T) → Stream T → Stream T
window m n gs v = concat (windows_and_main (chained m gs) (windows n [] v.items v.ending) v.ending)
