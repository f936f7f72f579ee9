-- The laws of a node: what comes in doesn't matter once it has ended, and why it isn't stuck.
use Rattle.std.specs.Prelude.{◌≡◌, ℕ, ◌+◌, ◌<◌, true, false, List, [], ◌∷◌, ◌++◌, length, slice_get, Some, None, refl}
use Rattle.std.proofs.Common.{inl, inr, sym, ap, subst, arith}
use Rattle.rsx_sources.specs.Prelude.{Meaning, Note, Signal, Stream, CanStep, IsHungry, AreWithin, ends_input, Incoming, incoming_of, quiet, StaysAlike, is_nil}
use Rattle.rsx_sources.proofs.Endings.{ending_cuts, ending_first, ending_waits}
use Rattle.rsx_plain.specs.Node.{plain_allocates, plain_comes_out, plain_ended, plain_popped, plain_takes, plain_wanted, plain_waiting, plain_counted}
use Rattle.rsx_plain.specs.State.{allocates_from, plain_from}
use Rattle.rsx_plain.specs.Operators.{wants_more}
use Rattle.rsx_plain.specs.declared.node.PlainNode.{PlainNode}

-- what leaves the slot leaves what may allocate as it is, and it reads no hub
pub plain_popped_alike : {T : Type 0} (old : PlainNode T) (s : Signal T) (new : PlainNode T) → plain_popped old s new → StaysAlike (λ n. None) (λ n. false) (λ a n. false) plain_allocates (λ a n. false) old new
plain_popped_alike old s new h = (refl, (refl, λ a. (refl, ap (allocates_from a) (sym h.1), refl)))

-- an ending in the slot cuts off whatever comes in
pub plain_drops : {T : Type 0} (m : Meaning T) (n : PlainNode T) (inc other : Incoming T) (further : Note) → plain_ended n ≡ true → plain_comes_out m n inc further ≡ plain_comes_out m n other further
plain_drops m n inc other further e = ap (quiet further) (ending_cuts n.slot (plain_from m n.state inc.first) (plain_from m n.state other.first) e)

-- so does one that is offered
pub plain_ends : {T : Type 0} (m : Meaning T) (n : PlainNode T) (s : Signal T) (inc other : Incoming T) (further : Note) → plain_waiting m n ≡ Some s → ends_input s ≡ true → plain_comes_out m n inc further ≡ plain_comes_out m n other further
plain_ends m n s inc other further w e = plain_drops m n inc other further (ending_first n.slot s w e)

-- the slot of a node that has ended isn't empty
pub plain_ending_waits : {T : Type 0} (m : Meaning T) (n : PlainNode T) (asked sent : ℕ) → plain_ended n ≡ true → plain_waiting m n ≡ None → sent < asked → CanStep (λ k i a s. false) (λ k a s. false) n asked sent
plain_ending_waits m n asked sent e none more = absurd (ending_waits n.slot e none)

-- a node has no input whose completion it took and that it goes on with
pub plain_done_drops : {T : Type 0} (m : Meaning T) (n : PlainNode T) (hubs before after : List (Stream T)) (v w : Stream T) (further : Note) → false ≡ true → plain_comes_out m n (incoming_of hubs (before ++ v ∷ after)) further ≡ plain_comes_out m n (incoming_of hubs (before ++ w ∷ after)) further
plain_done_drops m n hubs before after v w further d = cc

none_waits : {A : Type 0} (xs : List A) → slice_get xs 0 ≡ None → xs ≡ []
none_waits [] e = refl
none_waits (x ∷ xs) e = cc

pub plain_hungry : {T : Type 0} (m : Meaning T) (n : PlainNode T) (taken : List ℕ) (asked sent : ℕ) → plain_ended n ≡ false → plain_counted n taken sent → plain_waiting m n ≡ None → sent < asked → AreWithin taken →
    IsHungry (λ k i f. plain_takes k i) (λ k i a s. false) (λ k a s. false) (λ k i. false) plain_wanted (λ k. None) n taken asked sent
plain_hungry {T} m n taken asked sent still c waits more within =
    let empty : n.slot ≡ [] = none_waits n.slot waits in
    let none : length n.slot ≡ 0 = ap length empty in
    let less : sent + length n.slot < asked = omega (arith, none, more) in
    let low : AreWithin (c.0 ∷ []) = subst AreWithin c.1 within in
    inr (inr (inl (record {
      i = 0;
      c = c.0;
      at = ap (λ l. slice_get l 0) c.1;
      open_still = refl;
      takes_any = λ f. ap is_nil empty;
      wants = wants_more n.state c.0 (sent + length n.slot) asked sent c.3 c.2 less low.0;
    })))
