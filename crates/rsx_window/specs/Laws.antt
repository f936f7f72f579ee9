-- The laws of a `window`: what comes in doesn't matter once it has ended, and why it isn't stuck.
use Rattle.std.specs.Prelude.{◌≡◌, ℕ, ◌<◌, min, Bool, true, false, nat_lt, nat_le, List, [], ◌∷◌, ◌++◌, length, slice_get, Some, None, refl}
use Rattle.std.proofs.Common.{inl, inr, ap, subst, arith}
use Rattle.std.proofs.lemmas.Bool.Decides.{nat_tests}
use Rattle.rsx_demand.specs.Demand.{saturating_total}
use Rattle.rsx_demand.specs.declared.TheConstants.{UNBOUNDED}
use Rattle.rsx_sources.specs.Prelude.{Note, Signal, Stage, Meaning, Stream, signals_then, AreWithin, CanStep, IsHungry, ends_input, Incoming, incoming_of, quiet}
use Rattle.rsx_sources.proofs.Endings.{ending_cuts, ending_first, ending_waits}
use Rattle.rsx_window.specs.Cut.{window_left, is_over}
use Rattle.rsx_window.specs.Window.{window_comes_out, window_waiting, window_takes, window_ended, window_done, window_wanted, slot_left, CountsItems}
use Rattle.rsx_window.specs.declared.current.CurrentWindow.{CurrentWindow}
use Rattle.rsx_window.specs.declared.current.CurrentWindow.TheVariants.{Running, Passing, Over}
use Rattle.rsx_window.specs.declared.node.WindowNode.{WindowNode}

pub window_drops : {T : Type 0} (m : Meaning T) (n : WindowNode T) (inc other : Incoming T) (further : Note) → window_ended n ≡ true → window_comes_out m n inc further ≡ window_comes_out m n other further
window_drops m n inc other further e = ap (quiet further) (ending_cuts n.pending.left (window_left m n.size n.stages.items n.current inc.first) (window_left m n.size n.stages.items n.current other.first) e)

pub window_ends : {T : Type 0} (m : Meaning T) (n : WindowNode T) (s : Signal T) (inc other : Incoming T) (further : Note) → window_waiting m n ≡ Some s → ends_input s ≡ true → window_comes_out m n inc further ≡ window_comes_out m n other further
window_ends m n s inc other further w e = window_drops m n inc other further (ending_first n.pending.left s w e)

over_left : {T : Type 0} (m : Meaning T) (size : ℕ) (gs : List (Stage T)) (current : CurrentWindow T) (v w : Stream T) → is_over current ≡ true → window_left m size gs current v ≡ window_left m size gs current w
over_left m size gs (Running c more) v w h = cc
over_left m size gs (Passing left) v w h = cc
over_left m size gs Over v w h = refl

-- nor does what comes in once the ending was put out
pub window_done_drops : {T : Type 0} (m : Meaning T) (n : WindowNode T) (hubs before after : List (Stream T)) (v w : Stream T) (further : Note) → window_done n (length before) ≡ true →
    window_comes_out m n (incoming_of hubs (before ++ v ∷ after)) further ≡ window_comes_out m n (incoming_of hubs (before ++ w ∷ after)) further
window_done_drops m n hubs before after v w further d =
    ap (λ z. quiet further (signals_then n.pending.left z)) (over_left m n.size n.stages.items n.current (incoming_of hubs (before ++ v ∷ after)).first (incoming_of hubs (before ++ w ∷ after)).first d)

pub window_ending_waits : {T : Type 0} (m : Meaning T) (n : WindowNode T) (asked sent : ℕ) → window_ended n ≡ true → window_waiting m n ≡ None → sent < asked → CanStep (λ k i a s. false) (λ k a s. false) n asked sent
window_ending_waits m n asked sent e none more = absurd (ending_waits n.pending.left e none)

none_waits : {A : Type 0} (xs : List A) → slice_get xs 0 ≡ None → xs ≡ []
none_waits [] e = refl
none_waits (x ∷ xs) e = cc

in_slot : (halfway : Bool) → nat_le 0 (slot_left halfway) ≡ true
in_slot true = refl
in_slot false = refl

less : (sent asked : ℕ) → sent < asked → nat_lt sent asked ≡ true
less sent asked h = grind (arith, nat_tests)

-- where nothing waits and more is asked than was sent, it wants one item more than it got
pub window_hungry : {T : Type 0} (m : Meaning T) (n : WindowNode T) (taken : List ℕ) (asked sent : ℕ) → window_ended n ≡ false → CountsItems n taken sent → window_waiting m n ≡ None → sent < asked → AreWithin taken →
    IsHungry (λ k i f. window_takes k i) (λ k i a s. false) (λ k a s. false) window_done window_wanted (λ k. None) n taken asked sent
window_hungry {T} m n taken asked sent still counted none more within =
    let empty : n.pending.left ≡ [] = none_waits n.pending.left none in
    let low : AreWithin (counted.items ∷ []) = subst AreWithin counted.at within in
    let few : counted.items < UNBOUNDED = low.0 in
    let got : n.got ≡ min UNBOUNDED counted.items = counted.got in
    let lacks : counted.items < saturating_total n.got 1 = omega (arith, got, few) in
    inr (inr (inl (record {
      i = 0;
      c = counted.items;
      at = ap (λ l. slice_get l 0) counted.at;
      open_still = counted.open_still;
      takes_any = λ f. rw (empty, counted.open_still) refl;
      wants = rw (less sent asked more, empty, in_slot n.halfway) lacks;
    })))
