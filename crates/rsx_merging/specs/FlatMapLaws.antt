-- The laws of a `flatMap`: what comes in doesn't matter once it has ended, and why it isn't stuck.
use Rattle.std.specs.Prelude.{◌≡◌, ℕ, ◌-◌, ◌<◌, ◌≤◌, Bool, true, false, ◌&&◌, nat_eq, nat_lt, List, [], ◌∷◌, ◌++◌, length, slice_get, Some, None, refl}
use Rattle.std.proofs.Common.{inl, inr, ap, subst, arith}
use Rattle.std.proofs.lemmas.Bool.Decides.{nat_tests}
use Rattle.rsx_demand.specs.Demand.{saturating_total}
use Rattle.rsx_demand.specs.declared.TheConstants.{UNBOUNDED}
use Rattle.rsx_sources.specs.Prelude.{Note, Signal, Next, Complete, Error, Meaning, unchosen, Stream, AreWithin, CanStep, IsHungry, ends_input, Incoming, incoming_of, front_of, is_nil}
use Rattle.rsx_plain.specs.Moves.{has_ending}
use Rattle.rsx_queued.specs.Prelude.{offers_ending, ending_there, empty_of, settled, merge_behind, merge_cut_off, is_empty}
use Rattle.rsx_values.specs.Pick.{InputLeft}
use Rattle.rsx_merging.specs.Coming.{lanes_to_come, unless_closed}
use Rattle.rsx_merging.specs.FlatMap.{flat_comes_out, flat_waiting, flat_takes, flat_picks, flat_ended, flat_done, flat_wanted, flat_recorded, left_of, CountsLanes, IsGoing}
use Rattle.rsx_merging.specs.Lanes.{next_front, may_take, AreWhole}
use Rattle.rsx_merging.specs.declared.flat_map_node.FlatMapNode.{FlatMapNode}

-- ---- once it has ended, what comes in doesn't matter

pub flat_drops : {T : Type 0} (m : Meaning T) (n : FlatMapNode T) (inc other : Incoming T) (further : Note) → flat_ended n ≡ true → flat_comes_out m n inc further ≡ flat_comes_out m n other further
flat_drops m n inc other further e = merge_cut_off n.output (left_of m n inc.first) (left_of m n other.first) further e

pub flat_ends : {T : Type 0} (m : Meaning T) (n : FlatMapNode T) (s : Signal T) (inc other : Incoming T) (further : Note) → flat_waiting m n ≡ Some s → ends_input s ≡ true → flat_comes_out m n inc further ≡ flat_comes_out m n other further
flat_ends m n s inc other further w e = flat_drops m n inc other further (offers_ending n.output s w e)

-- ---- nor does what comes in behind the ending of the input

pub closed_left : {A : Type 0} (closed : Bool) (is js : List A) → closed ≡ true → unless_closed closed is ≡ unless_closed closed js
closed_left true is js e = refl
closed_left false is js e = cc

pub flat_done_drops : {T : Type 0} (m : Meaning T) (n : FlatMapNode T) (hubs before after : List (Stream T)) (v w : Stream T) (further : Note) → flat_done n (length before) ≡ true →
    flat_comes_out m n (incoming_of hubs (before ++ v ∷ after)) further ≡ flat_comes_out m n (incoming_of hubs (before ++ w ∷ after)) further
flat_done_drops {T} m n hubs [] after v w further d =
    let coming : Stream T → List (InputLeft T) = λ z. lanes_to_come m n.expansion.function n.expansion.stages.items n.next z in
    ap (λ is. merge_behind n.output (n.lanes ++ is) further) (closed_left n.closed (coming v) (coming w) d)
flat_done_drops m n hubs (b ∷ before) after v w further d = refl

-- ---- where nothing more is chosen, something comes out

pub flat_settles : {T : Type 0} (m : Meaning T) (n : FlatMapNode T) (inc : Incoming T) → (v : Stream T) × (flat_comes_out m n inc (unchosen (flat_recorded n)) ≡ Some v)
flat_settles m n inc = settled n.output _ _

-- ---- it isn't stuck

pub flat_ending_waits : {T : Type 0} (m : Meaning T) (n : FlatMapNode T) (asked sent : ℕ) → flat_ended n ≡ true → flat_waiting m n ≡ None → sent < asked → CanStep flat_picks (λ k a s. false) n asked sent
flat_ending_waits m n asked sent e none more = absurd (ending_there n.output e none)

pub less : (sent asked : ℕ) → sent < asked → nat_lt sent asked ≡ true
less sent asked h = grind (arith, nat_tests)

itself : (k : ℕ) → nat_eq k k ≡ true
itself k = grind (arith, nat_tests)

may_any : {T : Type 0} (s : Signal T) → may_take (Some (front_of s)) true ≡ true
may_any (Next x) = refl
may_any Complete = refl
may_any (Error c) = refl

-- a lane that has its ending has a next signal
pub first_ready : {T : Type 0} (k : ℕ) (ss : List (Signal T)) (is : List (InputLeft T)) → has_ending ss ≡ true → may_take (next_front k ((k, ss) ∷ is)) true ≡ true
first_ready k [] is h = cc
first_ready k (s ∷ ss) is h = rw (itself k) (may_any s)

pub unended : (next conc : ℕ) (taken : List ℕ) → 1 ≤ conc → taken ≡ next ∷ [] → AreWithin taken → next < saturating_total conc (next - 0)
unended next conc taken some is within =
    let low : AreWithin (next ∷ []) = subst AreWithin is within in
    let few : next < UNBOUNDED = low.0 in
    omega (arith, few, some)

pub flat_hungry : {T : Type 0} (m : Meaning T) (n : FlatMapNode T) (taken : List ℕ) (asked sent : ℕ) → flat_ended n ≡ false → IsGoing n taken sent → flat_waiting m n ≡ None → sent < asked → AreWithin taken →
    IsHungry flat_takes flat_picks (λ k a s. false) flat_done flat_wanted (λ k. None) n taken asked sent
flat_hungry {T} m n taken asked sent still going none more within = by_lanes n.lanes refl n.closed refl
  where
    free : is_empty n.output ≡ true
    free = empty_of n.output none going.not_over

    by_lanes : (is : List (InputLeft T)) → n.lanes ≡ is → (closed : Bool) → n.closed ≡ closed → IsHungry flat_takes flat_picks (λ k a s. false) flat_done flat_wanted (λ k. None) n taken asked sent
    by_lanes (i ∷ is) e closed c =
        let whole : AreWhole (i ∷ is) = subst AreWhole e going.whole in
        inl (i.0, whole.0, rw (free, e, less sent asked more) (first_ready i.0 i.1 is whole.1))
    by_lanes [] e true c = absurd (let left = going.some_left in let gone : n.closed && is_nil n.lanes ≡ true = rw (c, e) refl in cc)
    by_lanes [] e false c =
        let counts : CountsLanes false n.concurrency n.next taken = subst (λ b. CountsLanes b n.concurrency n.next taken) c going.counts in
        inr (inr (inl (record {
          i = 0;
          c = n.next;
          at = ap (λ l. slice_get l 0) counts.1;
          open_still = c;
          takes_any = λ f. refl;
          wants = rw e (unended n.next n.concurrency taken counts.0 counts.1 within);
        })))
