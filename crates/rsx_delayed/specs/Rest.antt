-- What a merge that delays failures still gives where nothing more is chosen.
use Rattle.std.specs.Prelude.{ℕ, ◌-◌, List, [], ◌∷◌, Option, Some, None}
use Rattle.rsx_sources.specs.Prelude.{Cause, Ending, Open, Done, Failed, Stream, ended_by, items_then}
use Rattle.rsx_queued.specs.declared.input.QueuedInput.{QueuedInput}
use Rattle.rsx_queued.specs.Prelude.{still, head_of, tail_of}
use Rattle.rsx_values.specs.Delayed.{ending_behind, first_cause}

-- how many of so many inputs have not ended behind one with this ending
abbrev pub left_behind : ℕ → Ending → ℕ
left_behind left Open = left
left_behind left Done = left - 1
left_behind left (Failed c) = left - 1

-- the first failure behind one with this ending
abbrev pub kept_behind : Option Cause → Ending → Option Cause
kept_behind kept Open = kept
kept_behind kept Done = kept
kept_behind kept (Failed c) = first_cause kept c

-- one value behind the other: their items, and the ending, where so many inputs have not ended and this failure was taken first
abbrev pub all_values : {T : Type 0} → ℕ → Option Cause → List (Stream T) → Stream T
all_values left kept [] = ended_by (ending_behind left kept)
all_values left kept (v ∷ vs) = items_then v.items (all_values (left_behind left v.ending) (kept_behind kept v.ending) vs)

-- a value in front of others, if there is one
abbrev pub value_before : {T : Type 0} → Option (Stream T) → List (Stream T) → List (Stream T)
value_before None vs = vs
value_before (Some v) vs = v ∷ vs

-- what still comes out of each input whose ending was not taken out, where these values still come in
abbrev pub values_left : {T : Type 0} → List (QueuedInput T) → List (Stream T) → List (Stream T)
values_left [] vs = []
values_left (q ∷ qs) vs = value_before (still q (head_of vs)) (values_left qs (tail_of vs))
