-- The values that come in at the inputs of a node, in their order.
use Rattle.std.specs.Prelude.{ℕ, zero, suc, List, [], ◌∷◌, drop}
use Rattle.rsx_types.specs.Stream.{Stream}
pub use Rattle.rsx_sources.specs.Heads.{head_of}

-- the values behind the first
abbrev pub tail_of : {A : Type 0} → List A → List A
tail_of [] = []
tail_of (v ∷ vs) = vs

-- the value with the number k; nothing comes where there is none
abbrev pub value_at : {T : Type 0} → List (Stream T) → ℕ → Stream T
value_at vs k = head_of (drop k vs)

-- so many values; nothing comes at an input that has no value
abbrev pub first_values : {T : Type 0} → ℕ → List (Stream T) → List (Stream T)
first_values zero vs = []
first_values (suc n) vs = head_of vs ∷ first_values n (tail_of vs)
