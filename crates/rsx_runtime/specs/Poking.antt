-- The regions of a live graph, and what a poke adds to its seat's steps, the newest of which stands first.
use Rattle.std.specs.Prelude.{◌≡◌, ◌<◌, ℕ, zero, suc, List, [], ◌∷◌, ◌++◌, Some, slice_get}
use Rattle.rsx_link.specs.declared.link.Link.{Link}
use Rattle.rsx_gate.specs.declared.gate.Gate.{Gate}
use Rattle.rsx_gate.specs.declared.view.Step.{Step}
use Rattle.rsx_gate.specs.declared.view.Step.TheVariants.{Enter, Mark, Leave, GiveUp}
use Rattle.rsx_gate.specs.Plays.{IsHeld}
use Rattle.rsx_gate.specs.Seats.{key_of}
use Rattle.rsx_sources.specs.Prelude.{Meaning}
use Rattle.rsx_sources.specs.declared.machine.Machine.{Ghosts as Machine}
use Rattle.rsx_region.specs.Pieces.{none_taken}
use Rattle.rsx_region.specs.Regions.{RegionFits}
use Rattle.rsx_region.specs.declared.opening.Opening.{Opening}
use Rattle.rsx_region.specs.declared.region.Region.{Region}
use Rattle.rsx_runtime.specs.declared.TheConstants.{ROUNDS}
use Rattle.rsx_runtime.specs.declared.live.PokeAnswer.{PokeAnswer}
use Rattle.rsx_runtime.specs.declared.live.PokeAnswer.TheVariants.{Idle, Noted, More, Budget, NoMemory}

-- so many rounds above older steps: each a mark, and a leave that found a note
abbrev pub AfterRounds : ℕ → List Step → List Step → Type 0
AfterRounds zero older steps = steps ≡ older
AfterRounds (suc k) older steps = (n : ℕ) × (before : List Step) × IsHeld n × AfterRounds k older before × (steps ≡ Leave 2 ∷ Mark n ∷ before)

-- rounds, a mark, and then a giving up
abbrev pub GivesUp : List Step → List Step → Type 0
GivesUp old steps = (k : ℕ) × (i : ℕ) × (n : ℕ) × (before : List Step) × (k < ROUNDS) × IsHeld i × IsHeld n × AfterRounds k (Enter 0 ∷ old) before × (steps ≡ GiveUp n ∷ Mark i ∷ before)

-- An enter that found the gate held; or one that found it free, and then rounds, up to a leave that freed the gate, or to a giving up.
abbrev pub Went : PokeAnswer → List Step → List Step → Type 0
Went Noted old steps = (n : ℕ) × IsHeld n × (steps ≡ Enter n ∷ old)
Went Idle old steps = (k : ℕ) × (n : ℕ) × (before : List Step) × (k < ROUNDS) × IsHeld n × AfterRounds k (Enter 0 ∷ old) before × (steps ≡ Leave 1 ∷ Mark n ∷ before)
Went More old steps = (k : ℕ) × (n : ℕ) × (before : List Step) × IsHeld n × AfterRounds k (Enter 0 ∷ old) before × (k ≡ ROUNDS) × (steps ≡ GiveUp n ∷ before)
Went Budget old steps = GivesUp old steps
Went NoMemory old steps = GivesUp old steps

-- the gate's region was opened over these links, and with these functions
abbrev pub IsGateOf : {M T O : Type 0} → List (Link T) → O → Gate (Region M T) (Opening M T O) → Type 0
IsGateOf links ops g = ((key_of g).links.value.items ≡ links) × ((key_of g).ops.value ≡ ops)

-- what the gate keeps of its region: it fits the key
abbrev pub Fits : {M T O : Type 0} → Machine M T → (O → Meaning T) → Opening M T O → Region M T → Type 0
Fits b meaning key r = RegionFits b (meaning key.ops.value) key.number (none_taken key.values) key.pieces.value.items key.links.value.items r

-- so much holds of some region, and that fits the gate's key
abbrev pub HasFitting : {M T O : Type 0} → Machine M T → (O → Meaning T) → Gate (Region M T) (Opening M T O) → (Region M T → Type 0) → Type 0
HasFitting {M} {T} b meaning g P = (r : Region M T) × P r × Fits b meaning (key_of g) r

-- one more stands behind the others, and this holds of it
abbrev pub IsAdded : {X : Type 0} → List X → List X → (X → Type 0) → Type 0
IsAdded {X} old new P = (x : X) × (new ≡ old ++ x ∷ []) × P x

-- there is one with this number, and this holds of it
abbrev pub IsAmong : {X : Type 0} → List X → ℕ → (X → Type 0) → Type 0
IsAmong {X} xs k P = (x : X) × (slice_get xs k ≡ Some x) × P x
