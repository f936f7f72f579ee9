-- Signals that wait, and memory for them.
use Rattle.std.specs.Prelude.{◌≡◌, ◌≤◌, ℕ, List, [], ◌∷◌, ◌++◌, map, Option, Some, None}
use Rattle.rsx_sources.specs.Prelude.{Ending, Signal, Next, ending_signals}
pub use Rattle.rsx_sources.specs.Endings.{has_ending}

-- the signals that wait, the oldest first, and how many there is memory for
pub record SignalsLeft (T : Type 0) : Type 0 where
  pub left : List (Signal T)
  pub room : ℕ

-- a list that is to stand in the place of p, if there is one, is empty and has memory for so many; where there is none, p has it
abbrev pub HasRoom : {T : Type 0} → Option (SignalsLeft T) → SignalsLeft T → ℕ → Type 0
HasRoom None p n = n ≤ p.room
HasRoom (Some q) p n = (q.left ≡ []) × (n ≤ q.room)

-- the signal of an item, if there is one
abbrev pub item_signals : {T : Type 0} → Option T → List (Signal T)
item_signals None = []
item_signals (Some x) = Next x ∷ []

-- the signals of these items, and of this item and this ending behind them
abbrev pub put_out : {T : Type 0} → List T → Option T → Ending → List (Signal T)
put_out xs y e = map Next xs ++ (item_signals y ++ ending_signals e)
