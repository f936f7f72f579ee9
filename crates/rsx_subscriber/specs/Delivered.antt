-- The signals that a graph delivered.
use Rattle.std.specs.Prelude.{ℕ, ◌≤◌, List, length, map}
use Rattle.rsx_sources.specs.Prelude.{SubId, Signal}

-- the signals, each with its subscriber, and for how many there is memory
pub record Delivered (T : Type 0) : Type 0 where
  pub signals : List (SubId × Signal T)
  pub room : ℕ

-- there is no memory for one signal more
abbrev pub IsFull : {T : Type 0} → Delivered T → Type 0
IsFull d = d.room ≤ length d.signals

-- signals to one subscriber
abbrev pub to : {T : Type 0} → SubId → List (Signal T) → List (SubId × Signal T)
to i ss = map (λ s. (i, s)) ss
