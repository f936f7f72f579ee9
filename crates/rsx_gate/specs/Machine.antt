-- The gate machine, its histories, and the rule of the table.
use Rattle.std.specs.Prelude.{◌≡◌, ℕ, zero, suc, ◌+◌, Bool, true, false, cond, ◌==◌, List, [], ◌∷◌, Option, Some, None, IfSome, slice_index_or}
use mathlib.Core.Option.{some, none}
use mathlib.Core.Option as maybe
use lib.ListN.{get_elem?}
use Rattle.atomic_table.specs.Table.{State}
use Rattle.rsx_gate.specs.declared.view.View.{View}
use Rattle.rsx_gate.specs.declared.view.Step.{Step}
use Rattle.rsx_gate.specs.declared.view.Step.TheVariants.{Enter, Mark, Leave, GiveUp}

-- a step in a history: the seat, which of the lists of that seat it stands in (0: its own), and the step
pub record Entry : Type 0 where
  pub seat : ℕ
  pub place : ℕ
  pub step : Step

abbrev pub entry : ℕ → ℕ → Step → Entry
entry o k x = record { seat = o; place = k; step = x }

abbrev pub found : Step → ℕ
found (Enter n) = n
found (Mark n) = n
found (Leave n) = n
found (GiveUp n) = n

-- the word after a step that found w: 0 free, 1 held, 2 held and noted
abbrev pub word_after : Step → ℕ → ℕ
word_after (Enter n) w = 2
word_after (Mark n) w = 1
word_after (Leave zero) w = w
word_after (Leave (suc zero)) w = 0
word_after (Leave (suc (suc n))) w = w
word_after (GiveUp n) w = 0

-- a history has its newest entry first
abbrev pub word_of : List Entry → ℕ
word_of [] = 0
word_of (e ∷ log) = word_after e.step (word_of log)

-- who has the pass after a step
abbrev pub holder_after : ℕ × ℕ → Step → maybe.Option (ℕ × ℕ) → maybe.Option (ℕ × ℕ)
holder_after who (Enter zero) h = some who
holder_after who (Enter (suc n)) h = h
holder_after who (Mark n) h = h
holder_after who (Leave zero) h = h
holder_after who (Leave (suc zero)) h = none
holder_after who (Leave (suc (suc n))) h = h
holder_after who (GiveUp n) h = none

abbrev pub holder_of : List Entry → maybe.Option (ℕ × ℕ)
holder_of [] = none
holder_of (e ∷ log) = holder_after (e.seat, e.place) e.step (holder_of log)

-- anyone may enter; the other steps are the holder's
abbrev pub May : ℕ × ℕ → maybe.Option (ℕ × ℕ) → Step → Type 0
May who h (Enter n) = Unit {0}
May who h (Mark n) = h ≡ some who
May who h (Leave n) = h ≡ some who
May who h (GiveUp n) = h ≡ some who

-- a legal history, a run of the gate machine from 0: each step found the word as it was
abbrev pub IsRun : List Entry → Type 0
IsRun [] = Unit {0}
IsRun (e ∷ log) = (found e.step ≡ word_of log) × May (e.seat, e.place) (holder_of log) e.step × IsRun log

-- the steps of a list of a seat, in their order
abbrev pub own : ℕ → ℕ → List Entry → List Step
own o k [] = []
own o k (e ∷ log) = cond (o == e.seat) (cond (k == e.place) (e.step ∷ own o k log) (own o k log)) (own o k log)

abbrev pub newest_after : Entry → Step → maybe.Option Entry → maybe.Option Entry
newest_after e (Enter n) r = some e
newest_after e (Mark n) r = some e
newest_after e (Leave n) r = r
newest_after e (GiveUp n) r = r

-- the newest of the enters and the marks
abbrev pub newest : List Entry → maybe.Option Entry
newest [] = none
newest (e ∷ log) = newest_after e e.step (newest log)

abbrev pub IsEnter : Step → Type 0
IsEnter (Enter n) = Unit {0}
IsEnter (Mark n) = ⊥
IsEnter (Leave n) = ⊥
IsEnter (GiveUp n) = ⊥

-- by its own steps a seat has the pass
abbrev pub holds_after : Step → Bool → Bool
holds_after (Enter zero) b = true
holds_after (Enter (suc n)) b = b
holds_after (Mark n) b = b
holds_after (Leave zero) b = b
holds_after (Leave (suc zero)) b = false
holds_after (Leave (suc (suc n))) b = b
holds_after (GiveUp n) b = false

abbrev pub holds_pass : List Step → Bool
holds_pass [] = false
holds_pass (x ∷ xs) = holds_after x (holds_pass xs)

-- the parts of the right to enter, of which each seat has some
abbrev pub all_parts : ℕ
all_parts = 4294967296

module _ {K : Type 0} where
  abbrev pub view : Option K → ℕ → List Step → List (List Step) → View K
  view key parts steps beside = record { key = key; parts = parts; steps = steps; beside = beside }

  -- the first seat, and one that was split off
  abbrev pub founder : K → View K
  founder key = view (Some key) all_parts [] []

  abbrev pub newcomer : Option K → View K
  newcomer key = view key 1 [] []

  abbrev pub spent : View K
  spent = view None 0 [] []

  -- the lists of a seat: its own, and those of the seats that were joined into it
  abbrev pub lists_of : maybe.Option (View K) → List (List Step)
  lists_of none = []
  lists_of (some v) = v.steps ∷ v.beside

  abbrev pub list_at : List (View K) → ℕ → ℕ → List Step
  list_at views o k = slice_index_or (lists_of (get_elem? views o)) k []

  abbrev pub KnowsKey : K → View K → Type 0
  KnowsKey key v = IfSome v.key (λ k. k ≡ key)

  abbrev pub parts_of : List (View K) → ℕ
  parts_of [] = 0
  parts_of (v ∷ vs) = v.parts + parts_of vs

  -- a seat with no part has made no step
  abbrev pub IsIdle : View K → Type 0
  IsIdle v = v.parts ≡ 0 → (v.steps ≡ []) × (v.beside ≡ [])

module _ {T : Type 0} where
  -- the value is in its slot, and fits, exactly where the word is 0
  abbrev pub AtHome : (T → Type 0) → ℕ → List (maybe.Option T) → Type 0
  AtHome fits zero homes = (x : T) × (homes ≡ some x ∷ []) × fits x
  AtHome fits (suc n) homes = homes ≡ none ∷ []

-- some interleaving of all seats' lists is a run that ends at the word, and the value is at home exactly where the word is 0
pub record Serial {T K : Type 0} (fits : T → Type 0) (key : K) (s : State T (View K)) : Type 0 where
  pub log : List Entry
  pub run : IsRun log
  pub word : s.words ≡ word_of log ∷ []
  pub lists : (o k : ℕ) → list_at s.views o k ≡ own o k log
  pub home : AtHome fits (word_of log) s.homes
  -- a seat was joined into another only while it had no pass
  pub beside : (o k : ℕ) → holds_pass (own o (suc k) log) ≡ false
  pub keys : (o : ℕ) (v : View K) → get_elem? s.views o ≡ some v → KnowsKey key v
  pub idle : (o : ℕ) (v : View K) → get_elem? s.views o ≡ some v → IsIdle v
  pub parts : parts_of s.views ≡ all_parts
