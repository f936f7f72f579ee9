-- What a part has put out: lists of signals; and what was published to it, which is what the hubs took in.
use Rattle.std.specs.Prelude.{◌≡◌, ℕ, zero, suc, Bool, nat_lt, List, [], ◌∷◌, ◌++◌, length, map, Option, Some, slice_get}
use Rattle.rsx_sources.specs.Prelude.{CAPACITY, Stream, items_then, Ending, Open, Done, Failed, Signal, Next, Complete, Error}
use Rattle.rsx_tree.specs.Reads.{count_before}

-- the items among the signals
abbrev pub items_in : {T : Type 0} → List (Signal T) → List T
items_in [] = []
items_in (Next x ∷ ss) = x ∷ items_in ss
items_in (Complete ∷ ss) = items_in ss
items_in (Error c ∷ ss) = items_in ss

-- a queue has room for a signal
abbrev pub has_room : {A : Type 0} → List A → Bool
has_room queue = nat_lt (length queue) CAPACITY

-- no ending among them
abbrev pub IsUnended : {T : Type 0} → List (Signal T) → Type 0
IsUnended [] = Unit {0}
IsUnended (Next x ∷ ss) = IsUnended ss
IsUnended (Complete ∷ ss) = ⊥
IsUnended (Error c ∷ ss) = ⊥

-- nothing follows an ending
abbrev pub IsOrderly : {T : Type 0} → List (Signal T) → Type 0
IsOrderly [] = Unit {0}
IsOrderly (Next x ∷ ss) = IsOrderly ss
IsOrderly (Complete ∷ ss) = ss ≡ []
IsOrderly (Error c ∷ ss) = ss ≡ []

abbrev pub IsPrefixOf : {T : Type 0} → List T → List T → Type 0
IsPrefixOf {T} xs ys = (rest : List T) × (xs ++ rest ≡ ys)

-- more behind what has this ending
abbrev pub more_after : {T : Type 0} → Ending → Stream T → Stream T → Stream T
more_after Open v more = items_then v.items more
more_after Done v more = v
more_after (Failed c) v more = v

-- what was published at a hub, and what is published there after it
abbrev pub published_then : {T : Type 0} → Stream T → Stream T → Stream T
published_then v more = more_after v.ending v more

-- what was published at each hub, and what is published there after it; hubs that come later have published nothing yet
abbrev pub values_then : {T : Type 0} → List (Stream T) → List (Stream T) → List (Stream T)
values_then [] ms = ms
values_then (v ∷ vs) [] = v ∷ values_then vs []
values_then (v ∷ vs) (m ∷ ms) = published_then v m ∷ values_then vs ms

-- how many items each hub published, as long as it goes on
abbrev pub counts_in : {T : Type 0} → List (Stream T) → List (Option ℕ)
counts_in vs = map (λ v. count_before v.ending (length v.items)) vs

-- one signal more was published
abbrev pub with_signal : {T : Type 0} → Signal T → Stream T → Stream T
with_signal (Next x) v = record { items = v.items ++ x ∷ []; ending = v.ending }
with_signal Complete v = record { items = v.items; ending = Done }
with_signal (Error c) v = record { items = v.items; ending = Failed c }

-- at the hub with this number
abbrev pub with_signal_at : {T : Type 0} → ℕ → Signal T → List (Stream T) → List (Stream T)
with_signal_at n s [] = []
with_signal_at zero s (v ∷ vs) = with_signal s v ∷ vs
with_signal_at (suc n) s (v ∷ vs) = v ∷ with_signal_at n s vs

-- there is a hub with this number, and it has not ended
abbrev pub IsOpenAt : {T : Type 0} → ℕ → List (Stream T) → Type 0
IsOpenAt {T} n vs = (v : Stream T) × (slice_get vs n ≡ Some v) × (v.ending ≡ Open)
