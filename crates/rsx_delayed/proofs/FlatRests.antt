-- Nothing comes out of a `flatMapDelayError` of which nothing can be picked, and at which nothing more comes in.
use Rattle.std.proofs.Common.{◌≡◌, ℕ, ◌<◌, ◌^◌, ◌&&◌, Bool, true, false, List, [], ◌∷◌, slice_get, Some, None, refl, ap, subst}
use Rattle.std.proofs.lemmas.Bool.{both_ways}
use Rattle.rsx_sources.specs.Prelude.{Picks, Open, Meaning, ended_by, AreWithin, Incoming, is_nil}
use Rattle.rsx_values.specs.Pick.{InputLeft}
use Rattle.rsx_queued.specs.Prelude.{empty_of, is_empty}
use Rattle.rsx_merging.specs.FlatMap.{CountsLanes}
use Rattle.rsx_merging.specs.Lanes.{AreWhole}
use Rattle.rsx_merging.specs.FlatMapLaws.{first_ready, less, unended}
use Rattle.rsx_delayed.specs.FlatMapDelay.{flat_delay_comes_out, flat_delay_counted, flat_delay_picks, flat_delay_waiting, flat_delay_wanted}
use Rattle.rsx_delayed.specs.declared.flat_map_delay_node.FlatMapDelayNode.{FlatMapDelayNode}
use Rattle.rsx_queued.proofs.Outputs.{empty_is}

-- nothing can be picked, and where more is wanted of the input than it gave, nothing comes in there
pub flat_delay_rests : {T : Type 0} (m : Meaning T) (n : FlatMapDelayNode T) (taken : List ℕ) (asked sent : ℕ) (inc : Incoming T) → flat_delay_counted n taken sent → flat_delay_waiting m n ≡ None → sent < asked → AreWithin taken →
    ((i : ℕ) → i < 2 ^ 64 → flat_delay_picks n i asked sent ≡ false) → ((c : ℕ) → slice_get taken 0 ≡ Some c → n.flat.closed ≡ false → c < flat_delay_wanted n 0 asked sent → inc.first ≡ ended_by Open) → flat_delay_comes_out m n inc (Picks []) ≡ Some (ended_by Open)
flat_delay_rests {T} m n taken asked sent inc going waits more within picks none = by_lanes n.flat.lanes refl n.flat.closed refl
  where
    free : is_empty n.flat.output ≡ true
    free = empty_of n.flat.output waits going.not_over

    by_lanes : (is : List (InputLeft T)) → n.flat.lanes ≡ is → (closed : Bool) → n.flat.closed ≡ closed → flat_delay_comes_out m n inc (Picks []) ≡ Some (ended_by Open)
    by_lanes (i ∷ is) e closed c =
        let whole : AreWhole (i ∷ is) = subst AreWhole e going.whole in
        absurd (both_ways (flat_delay_picks n i.0 asked sent) (picks i.0 whole.0) (rw (free, e, less sent asked more) (first_ready i.0 i.1 is whole.1)))
    by_lanes [] e true c = absurd (both_ways (n.flat.closed && is_nil n.flat.lanes) going.some_left (rw (c, e) refl))
    by_lanes [] e false c =
        let counts : CountsLanes false n.flat.concurrency n.flat.next taken = subst (λ b. CountsLanes b n.flat.concurrency n.flat.next taken) c going.counts in
        let nothing : inc.first ≡ ended_by Open = none n.flat.next (ap (λ l. slice_get l 0) counts.1) c (rw e (unended n.flat.next n.flat.concurrency taken counts.0 counts.1 within)) in
        rw (empty_is n.flat.output free, e, c, nothing) refl
