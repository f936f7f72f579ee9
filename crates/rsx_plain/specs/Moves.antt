-- How an operator answers a signal.
use Rattle.std.specs.Prelude.{◌≡◌, List, [], ◌∷◌, ⊤}
use Rattle.rsx_sources.specs.Prelude.{Ending, Signal, Next, Complete, Error, Stream, items_then, signal_then, signals_then}
pub use Rattle.rsx_sources.specs.Endings.{ended_or, has_ended, has_ending}

-- whatever still comes: the signal goes into old, out comes out, and new is left
abbrev pub Moves : {T S : Type 0} → (S → Stream T → Stream T) → S → Signal T → List (Signal T) → S → Type 0
Moves {T} from old s out new = (rest : Stream T) → from old (signal_then s rest) ≡ signals_then out (from new rest)

-- nothing stands behind a completion or a failure
abbrev pub EndsLast : {T : Type 0} → List (Signal T) → Type 0
EndsLast [] = ⊤
EndsLast (Next x ∷ ss) = EndsLast ss
EndsLast (Complete ∷ ss) = ss ≡ []
EndsLast (Error c ∷ ss) = ss ≡ []

-- the items of these signals were put behind the others, and their ending is e: in all the same comes, whatever comes then
abbrev pub IsPutBehind : {T : Type 0} → List T → List (Signal T) → List T → Ending → Type 0
IsPutBehind {T} before signals after e = (v : Stream T) → items_then before (signals_then signals v) ≡ items_then after (ended_or e v)
