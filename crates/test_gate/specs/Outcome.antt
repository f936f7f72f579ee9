-- What a visit adds to its seat's steps, the newest first.
use Rattle.std.specs.Prelude.{◌≡◌, ◌<◌, ℕ, zero, suc, List, ◌∷◌}
use Rattle.rsx_gate.specs.declared.view.Step.{Step}
use Rattle.rsx_gate.specs.declared.view.Step.TheVariants.{Enter, Mark, Leave, GiveUp}
use Rattle.rsx_gate.specs.Plays.{IsHeld}
use Rattle.test_gate.specs.declared.TheConstants.{ROUNDS}
use Rattle.test_gate.specs.declared.Outcome.{Outcome}
use Rattle.test_gate.specs.declared.Outcome.TheVariants.{Noted, Gone, More}

-- so many rounds above older steps: each a mark, and a leave that found a note
abbrev pub AfterRounds : ℕ → List Step → List Step → Type 0
AfterRounds zero older steps = steps ≡ older
AfterRounds (suc k) older steps = (n : ℕ) × (before : List Step) × IsHeld n × AfterRounds k older before × (steps ≡ Leave 2 ∷ Mark n ∷ before)

-- an enter that found the gate held; or one that found it free, and then rounds up to a mark and a leave that freed it,
-- or all rounds and a giving up
abbrev pub Visited : Outcome → List Step → List Step → Type 0
Visited Noted old steps = (n : ℕ) × IsHeld n × (steps ≡ Enter n ∷ old)
Visited Gone old steps =
    (k : ℕ) × (n : ℕ) × (before : List Step) × (k < ROUNDS) × IsHeld n × AfterRounds k (Enter 0 ∷ old) before × (steps ≡ Leave 1 ∷ Mark n ∷ before)
Visited More old steps =
    (k : ℕ) × (n : ℕ) × (before : List Step) × IsHeld n × AfterRounds k (Enter 0 ∷ old) before × (k ≡ ROUNDS) × (steps ≡ GiveUp n ∷ before)
