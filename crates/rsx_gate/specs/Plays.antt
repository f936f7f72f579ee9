-- What each step tells its seat.
use Rattle.std.specs.Prelude.{◌≡◌, ◌≢◌, ℕ, ◌+◌, ◌-◌, List, ◌∷◌, ◌++◌, IfSome, ◌⊎◌}
use mathlib.Core.Option.{some}
use Rattle.atomic_table.specs.Table.{Me, rest}
use Rattle.atomic_table.specs.Table as table
use Rattle.rsx_gate.specs.declared.view.View.{View}
use Rattle.rsx_gate.specs.declared.view.Step.{Step}
use Rattle.rsx_gate.specs.declared.view.Step.TheVariants.{Enter, Mark, Leave, GiveUp}
use Rattle.rsx_gate.specs.Machine.{Entry, entry, IsRun, own, newest, IsEnter, view}

module _ {K : Type 0} where
  -- the same seat with one step more
  abbrev pub more : View K → Step → View K
  more v x = view v.key v.parts (x ∷ v.steps) v.beside

  -- a seat that gave one part to a new seat
  abbrev pub fewer : View K → View K
  fewer v = view v.key (v.parts - 1) v.steps v.beside

  -- two seats' parts and lists in one
  abbrev pub joined : View K → View K → View K
  joined v w = view v.key (v.parts + w.parts) v.steps (v.beside ++ w.steps ∷ w.beside)

-- the word of a gate that is held
abbrev pub IsHeld : ℕ → Type 0
IsHeld n = (n ≡ 1) ⊎ (n ≡ 2)

-- in a legal history with these steps the newest of all seats' enters and marks is the holder's mark
abbrev pub HasSeenAll : List Step → Type 0
HasSeenAll steps = (by : ℕ) × (log : List Entry) × IsRun log × (own by 0 log ≡ steps) × ((n : ℕ) × (newest log ≡ some (entry by 0 (Mark n))))

-- in a legal history with these steps it is an enter: another's after the holder's last mark, or the one by which the holder got the pass
abbrev pub HasNote : List Step → Type 0
HasNote steps = (by : ℕ) × (log : List Entry) × IsRun log × (own by 0 log ≡ steps) × ((e : Entry) × (newest log ≡ some e) × IsEnter e.step)

module _ {T K : Type 0} where
  abbrev pub entered : (K → T → Type 0) → table.Step T → Me T (View K) → ℕ → Me T (View K) → Type 0
  entered fits st m n w = (w.0 ≡ more m.0 (Enter n))
      × (n ≡ 0 → (x : T) × (w.1 ≡ (0, x) ∷ m.1) × IfSome m.0.key (λ k. fits k x)) × (n ≢ 0 → IsHeld n × (w.1 ≡ m.1))

  abbrev pub marked : table.Step T → Me T (View K) → ℕ → Me T (View K) → Type 0
  marked st m n w = (w.0 ≡ more m.0 (Mark n)) × (w.1 ≡ m.1) × IsHeld n

  abbrev pub left : table.Step T → Me T (View K) → ℕ → Me T (View K) → Type 0
  left st m n w = (w.0 ≡ more m.0 (Leave n)) × (n ≡ 1 → (w.1 ≡ rest m.1) × HasSeenAll m.0.steps) × (n ≢ 1 → (n ≡ 2) × (w.1 ≡ m.1) × HasNote m.0.steps)

  abbrev pub gave_up : table.Step T → Me T (View K) → ℕ → Me T (View K) → Type 0
  gave_up st m n w = (w.0 ≡ more m.0 (GiveUp n)) × (w.1 ≡ rest m.1) × IsHeld n
