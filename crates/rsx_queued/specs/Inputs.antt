-- The inputs of a node: what each takes, how many items it took in, and what can still be picked of it.
use Rattle.std.specs.Prelude.{⊤, ℕ, suc, Bool, true, false, ◌&&◌, List, [], ◌∷◌, Option, Some, None}
use Rattle.rsx_sources.specs.Prelude.{Note, Nothing, Picks, Ended, Signal, Stream, signals}
use Rattle.rsx_sources.specs.declared.machine.Front.{Front}
use Rattle.rsx_queued.specs.Queued.{is_ended}
use Rattle.rsx_values.specs.Pick.{InputLeft}
use Rattle.rsx_queued.specs.declared.input.QueuedInput.{QueuedInput}
use Rattle.rsx_queued.specs.Input.{still, takes, is_gone, next_signal, waiting_count, input_credits, IsCounted}
use Rattle.rsx_queued.specs.Values.{head_of, tail_of}

-- ---- the input with a number, if there is one

-- whether it takes such a signal
abbrev pub takes_at : {T : Type 0} → Option (QueuedInput T) → Front → Bool
takes_at None f = false
takes_at (Some q) f = takes q f

-- its next signal
abbrev pub next_signal_at : {T : Type 0} → Option (QueuedInput T) → Option (Signal T)
next_signal_at None = None
next_signal_at (Some q) = next_signal q

-- the total to be asked of it
abbrev pub credits_at : {T : Type 0} → Option (QueuedInput T) → ℕ
credits_at None = 0
credits_at (Some q) = input_credits q

-- how many signals wait there
abbrev pub waiting_at : {T : Type 0} → Option (QueuedInput T) → Option ℕ
waiting_at None = None
waiting_at (Some q) = Some (waiting_count q)

-- whether its ending came in
abbrev pub done_at : {T : Type 0} → Option (QueuedInput T) → Bool
done_at None = true
done_at (Some q) = is_ended q.tail

-- ---- all inputs

-- whether the endings of all were taken out
abbrev pub are_gone : {T : Type 0} → List (QueuedInput T) → Bool
are_gone [] = true
are_gone (q ∷ qs) = is_gone q && are_gone qs

-- they took in so many items each
abbrev pub AreCounted : {T : Type 0} → List (QueuedInput T) → List ℕ → Type 0
AreCounted [] [] = ⊤
AreCounted [] (c ∷ cs) = ⊥
AreCounted (q ∷ qs) [] = ⊥
AreCounted (q ∷ qs) (c ∷ cs) = IsCounted q c × AreCounted qs cs

-- ---- what can still be picked

-- a numbered input in front of others, unless nothing comes out of it any more
abbrev pub here : {T : Type 0} → ℕ → Option (Stream T) → List (InputLeft T) → List (InputLeft T)
here k None is = is
here k (Some v) is = (k, signals v) ∷ is

-- the inputs from number k on, with what can still be picked of each where these values still come in
abbrev pub inputs_left : {T : Type 0} → ℕ → List (QueuedInput T) → List (Stream T) → List (InputLeft T)
inputs_left k [] vs = []
inputs_left k (q ∷ qs) vs = here k (still q (head_of vs)) (inputs_left (suc k) qs (tail_of vs))

-- a node that records picks has a value only where picks are chosen
abbrev pub picked : {A : Type 0} → Note → (List ℕ → Option A) → Option A
picked Nothing f = None
picked (Picks cs) f = f cs
picked (Ended o) f = None
