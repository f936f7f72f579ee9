-- The lanes of a `groupBy` with their keys.
use Rattle.std.specs.Prelude.{⊤, ℕ, zero, suc, Bool, true, false, ◌&&◌, List, [], ◌∷◌, length, map, Option, Some, None}
use Rattle.rsx_demand.specs.Demand.{saturating_total}
use Rattle.rsx_grouping.specs.Lane.{is_quiet, is_gone, can_pick, GoesOn}
use Rattle.rsx_grouping.specs.declared.table.KeyedLane.{KeyedLane}
use Rattle.rsx_grouping.specs.declared.table.MayWait.{MayWait}
use Rattle.rsx_grouping.specs.declared.table.MayWait.TheVariants.{Anywhere, At, Nowhere}

-- their keys
abbrev pub keys_of : {T : Type 0} → List (KeyedLane T) → List ℕ
keys_of rows = map (λ r. r.key) rows

-- whether nothing waits in any
abbrev pub are_quiet : {T : Type 0} → List (KeyedLane T) → Bool
are_quiet [] = true
are_quiet (r ∷ rows) = is_quiet r.lane && are_quiet rows

-- whether nothing waits in the lane at a place, if there is one
abbrev pub is_quiet_at : {T : Type 0} → Option (KeyedLane T) → Bool
is_quiet_at None = true
is_quiet_at (Some r) = is_quiet r.lane

-- whether nothing waits in any but the one at a place
abbrev pub are_quiet_beside : {T : Type 0} → ℕ → List (KeyedLane T) → Bool
are_quiet_beside i [] = true
are_quiet_beside zero (r ∷ rows) = are_quiet rows
are_quiet_beside (suc i) (r ∷ rows) = is_quiet r.lane && are_quiet_beside i rows

-- whether it is so where something may wait
abbrev pub is_told : {T : Type 0} → MayWait → List (KeyedLane T) → Bool
is_told Nowhere rows = are_quiet rows
is_told (At i) rows = are_quiet_beside i rows
is_told Anywhere rows = true

-- whether the endings of all were picked
abbrev pub are_gone : {T : Type 0} → List (KeyedLane T) → Bool
are_gone [] = true
are_gone (r ∷ rows) = is_gone r.lane && are_gone rows

-- how many items wait in them, beside so many others: at most 2^63-1
abbrev pub waiting_after : {T : Type 0} → ℕ → List (KeyedLane T) → ℕ
waiting_after n [] = n
waiting_after n (r ∷ rows) = waiting_after (saturating_total n (length r.lane.waiting)) rows

-- no chain of a lane that runs is over
abbrev pub GoOn : {T : Type 0} → List (KeyedLane T) → Type 0
GoOn [] = ⊤
GoOn (r ∷ rows) = GoesOn r.lane.state × GoOn rows

-- whether the lane at a place, if there is one, can be picked
abbrev pub can_pick_at : {T : Type 0} → Option (KeyedLane T) → Bool → ℕ → ℕ → Bool
can_pick_at None done asked sent = false
can_pick_at (Some r) done asked sent = can_pick r.lane done asked sent

-- whether its ending was picked; also where there is none
abbrev pub is_gone_at : {T : Type 0} → Option (KeyedLane T) → Bool
is_gone_at None = true
is_gone_at (Some r) = is_gone r.lane
