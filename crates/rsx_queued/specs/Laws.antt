-- What the laws of nodes with such an output rest on.
use Rattle.std.specs.Prelude.{◌≡◌, ℕ, suc, true, false, List, [], ◌∷◌, ◌++◌, length, slice_get, Option, Some, None, refl}
use Rattle.std.proofs.Common.{ap}
use Rattle.rsx_sources.specs.Prelude.{Note, Nothing, Picks, Ended, Signal, Next, Complete, Error, Stream, ends_input, incoming_of}
use Rattle.rsx_queued.specs.declared.tail.Tail.{Tail}
use Rattle.rsx_queued.specs.declared.tail.Tail.TheVariants.{Open, Completion, Failure, Taken}
use Rattle.rsx_queued.specs.Held.{held_then}
use Rattle.rsx_queued.specs.Queued.{is_ended}
use Rattle.rsx_queued.specs.declared.input.QueuedInput.{QueuedInput}
use Rattle.rsx_queued.specs.declared.output.Output.{Output}
use Rattle.rsx_queued.specs.declared.output.Output.TheVariants.{Empty, Waiting, Over}
use Rattle.rsx_queued.specs.Input.{unless_taken, still}
use Rattle.rsx_queued.specs.Inputs.{here, inputs_left, done_at, picked}
use Rattle.rsx_queued.specs.Output.{out_signal, is_empty, is_over, has_ending, output_then}

-- an ending that waits cuts off what comes
pub ended_out : {T : Type 0} (out : Output T) (a b over : Option (Stream T)) → has_ending out ≡ true → output_then out a over ≡ output_then out b over
ended_out Empty a b over e = cc
ended_out (Waiting (Next x)) a b over e = cc
ended_out (Waiting Complete) a b over e = refl
ended_out (Waiting (Error c)) a b over e = refl
ended_out Over a b over e = cc

-- an ending that is offered waits
pub offers_ending : {T : Type 0} (out : Output T) (s : Signal T) → out_signal out ≡ Some s → ends_input s ≡ true → has_ending out ≡ true
offers_ending Empty s w e = cc
offers_ending (Waiting (Next x)) (Next y) w e = cc
offers_ending (Waiting (Next x)) Complete w e = cc
offers_ending (Waiting (Next x)) (Error c) w e = cc
offers_ending (Waiting Complete) s w e = refl
offers_ending (Waiting (Error c)) s w e = refl
offers_ending Over s w e = cc

-- and one that waits is offered
pub ending_there : {T : Type 0} (out : Output T) → has_ending out ≡ true → out_signal out ≡ None → ⊥
ending_there Empty e none = cc
ending_there (Waiting s) e none = cc
ending_there Over e none = cc

-- where nothing waits and nothing is over, a signal may be put out
pub empty_of : {T : Type 0} (out : Output T) → out_signal out ≡ None → is_over out ≡ false → is_empty out ≡ true
empty_of Empty none o = refl
empty_of (Waiting s) none o = cc
empty_of Over none o = cc

-- where there is a value to come, there is a value
pub settled : {T : Type 0} (out : Output T) (v over : Stream T) → (w : Stream T) × (output_then out (Some v) (Some over) ≡ Some w)
settled Empty v over = (_, refl)
settled (Waiting (Next x)) v over = (_, refl)
settled (Waiting Complete) v over = (_, refl)
settled (Waiting (Error c)) v over = (_, refl)
settled Over v over = (_, refl)

-- the values that come in, in one row
pub same_row : {T : Type 0} (hubs before after : List (Stream T)) (v : Stream T) → (incoming_of hubs (before ++ v ∷ after)).first ∷ (incoming_of hubs (before ++ v ∷ after)).others ≡ before ++ v ∷ after
same_row hubs [] after v = refl
same_row hubs (b ∷ before) after v = refl

-- ---- an input whose ending came in

-- what comes in there doesn't matter
pub still_ended : {T : Type 0} (t : Tail) (xs : List T) (v w : Stream T) → is_ended t ≡ true → unless_taken t (Some (held_then xs t v)) ≡ unless_taken t (Some (held_then xs t w))
still_ended Open xs v w e = cc
still_ended Completion xs v w e = refl
still_ended (Failure c) xs v w e = refl
still_ended Taken xs v w e = refl

pub done_left : {T : Type 0} (k : ℕ) (qs : List (QueuedInput T)) (before after : List (Stream T)) (v w : Stream T) → done_at (slice_get qs (length before)) ≡ true →
    inputs_left k qs (before ++ v ∷ after) ≡ inputs_left k qs (before ++ w ∷ after)
done_left k [] before after v w d = refl
done_left k (q ∷ qs) [] after v w d = ap (λ o. here k o (inputs_left (suc k) qs after)) (still_ended q.tail q.queue.items v w d)
done_left k (q ∷ qs) (b ∷ before) after v w d = ap (here k (still q b)) (done_left (suc k) qs before after v w d)

-- ---- recorded picks

pub picked_same : {A : Type 0} (further : Note) (f g : List ℕ → Option A) → ((cs : List ℕ) → f cs ≡ g cs) → picked further f ≡ picked further g
picked_same Nothing f g h = refl
picked_same (Picks cs) f g h = h cs
picked_same (Ended o) f g h = refl
