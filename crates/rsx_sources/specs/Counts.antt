-- How many items a node took at each input and how many it sent, and why a node that owes an item isn't stuck.
use Rattle.std.specs.Prelude.{◌≡◌, ◌⊎◌, ⊤, ℕ, zero, suc, ◌+◌, ◌<◌, ◌^◌, Bool, true, false, List, [], ◌∷◌, slice_get, Option, Some, None}
use Rattle.rsx_demand.specs.declared.TheConstants.{UNBOUNDED}
use Rattle.rsx_types.specs.declared.signal.Signal.{Signal}
use Rattle.rsx_types.specs.declared.signal.Signal.TheVariants.{Next, Complete, Error}
use Rattle.rsx_sources.specs.Reading.{Reading}
use Rattle.rsx_sources.specs.declared.machine.Front.{Front}

-- one more at input i
abbrev pub one_more : ℕ → List ℕ → List ℕ
one_more i [] = []
one_more zero (n ∷ ns) = (n + 1) ∷ ns
one_more (suc i) (n ∷ ns) = n ∷ one_more i ns

-- the counts after a signal of input i was taken
abbrev pub taken_after : {T : Type 0} → ℕ → Signal T → List ℕ → List ℕ
taken_after i (Next x) ns = one_more i ns
taken_after i Complete ns = ns
taken_after i (Error c) ns = ns

-- whether a signal is a completion or a failure
abbrev pub ends_input : {T : Type 0} → Signal T → Bool
ends_input (Next x) = false
ends_input Complete = true
ends_input (Error c) = true

-- a signal of input i was taken: an item counts, and after an ending the input is done
pub record CountsIn {T S : Type 0} (counted : S → List ℕ → ℕ → Type 0) (ended : S → Bool) (done : S → ℕ → Bool) (old : S) (i : ℕ) (s : Signal T) (new : S) : Type 0 where
  pub stays_ended : ended old ≡ true → ended new ≡ true
  pub counts : ended new ≡ false → (taken : List ℕ) (sent : ℕ) → counted old taken sent → counted new (taken_after i s taken) sent
  pub stays_done : (j : ℕ) → done old j ≡ true → done new j ≡ true
  pub is_done : ended new ≡ false → ends_input s ≡ true → done new i ≡ true

-- an item that was taken out was sent; after an ending nothing is counted
abbrev pub CountsOut : {T S : Type 0} → (S → List ℕ → ℕ → Type 0) → (S → Bool) → (S → ℕ → Bool) → S → Option (Signal T) → S → Type 0
CountsOut counted ended done old (Some (Next x)) new =
    (ended new ≡ ended old) × ((taken : List ℕ) (sent : ℕ) → counted old taken sent → counted new taken (sent + 1)) × ((j : ℕ) → done old j ≡ true → done new j ≡ true)
CountsOut counted ended done old (Some Complete) new = ⊤
CountsOut counted ended done old (Some (Error c)) new = ⊤
CountsOut counted ended done old None new = ⊤

-- a step of the node itself takes nothing and sends nothing
pub record CountsStep {S : Type 0} (counted : S → List ℕ → ℕ → Type 0) (ended : S → Bool) (done : S → ℕ → Bool) (old new : S) : Type 0 where
  pub stays_ended : ended old ≡ true → ended new ≡ true
  pub counts : ended new ≡ false → (taken : List ℕ) (sent : ℕ) → counted old taken sent → counted new taken sent
  pub stays_done : (j : ℕ) → done old j ≡ true → done new j ≡ true

-- no count has reached what can be asked for in all
abbrev pub AreWithin : List ℕ → Type 0
AreWithin [] = ⊤
AreWithin (n ∷ ns) = (n < UNBOUNDED) × AreWithin ns

-- the node wants more of input i than the `c` items that it took there, and takes whatever comes
pub record IsHungryAt {S : Type 0} (takes : S → ℕ → Front → Bool) (done : S → ℕ → Bool) (wanted : S → ℕ → ℕ → ℕ → ℕ) (n : S) (taken : List ℕ) (asked sent : ℕ) : Type 0 where
  pub i : ℕ
  pub c : ℕ
  pub at : slice_get taken i ≡ Some c
  pub open_still : done n i ≡ false
  pub takes_any : (f : Front) → takes n i f ≡ true
  pub wants : c < wanted n i asked sent

-- an input can be picked, or a row can be made
abbrev pub CanStep : {S : Type 0} → (S → ℕ → ℕ → ℕ → Bool) → (S → ℕ → ℕ → Bool) → S → ℕ → ℕ → Type 0
CanStep picks rows n asked sent = ((i : ℕ) × (i < 2 ^ 64) × (picks n i asked sent ≡ true)) ⊎ (rows n asked sent ≡ true)

-- no input can be picked and no row made, whatever is asked of the node
abbrev pub NeverSteps : {S : Type 0} → (S → ℕ → ℕ → ℕ → Bool) → (S → ℕ → ℕ → Bool) → S → Type 0
NeverSteps picks rows n = (asked sent : ℕ) → ((i : ℕ) → picks n i asked sent ≡ false) × (rows n asked sent ≡ false)

-- the node waits for the hub that it reads
abbrev pub IsReading : {S : Type 0} → (S → Option Reading) → S → Type 0
IsReading reads n = (r : Reading) × (reads n ≡ Some r)

-- an input can be picked, or a row can be made, or the node wants more at an input, or it waits for its hub
abbrev pub IsHungry : {S : Type 0} → (S → ℕ → Front → Bool) → (S → ℕ → ℕ → ℕ → Bool) → (S → ℕ → ℕ → Bool) → (S → ℕ → Bool) → (S → ℕ → ℕ → ℕ → ℕ) → (S → Option Reading) → S → List ℕ → ℕ → ℕ → Type 0
IsHungry takes picks rows done wanted reads n taken asked sent =
    ((i : ℕ) × (i < 2 ^ 64) × (picks n i asked sent ≡ true))
    ⊎ ((rows n asked sent ≡ true) ⊎ (IsHungryAt takes done wanted n taken asked sent ⊎ IsReading reads n))
