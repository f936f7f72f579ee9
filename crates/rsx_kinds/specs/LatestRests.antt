-- Nothing comes out of a combineLatest of inputs from which nothing can be picked, and at which nothing more comes in.
use Rattle.std.proofs.Common.{◌≡◌, ℕ, ◌<◌, ◌^◌, Bool, true, false, List, [], ◌∷◌, length, slice_get, Option, Some, None, refl, ap, ◌∙◌, arith}
use Rattle.rsx_sources.specs.Prelude.{Picks, Open, Signal, Meaning, ended_by, AreWithin, Incoming}
use Rattle.rsx_values.specs.Prelude.{InputLeft, combine_until_stop, walk_until_stop}
use Rattle.rsx_queued.specs.Prelude.{inputs_left, next_signal_at, empty_of, is_empty}
use Rattle.rsx_queued.proofs.Outputs.{empty_then}
use Rattle.rsx_combining.specs.Latest.{IsLatestCounted, LatestState, gives_row, latest_comes_out, latest_done, latest_picks, latest_takes, latest_waiting, latest_wanted}
use Rattle.rsx_combining.specs.LatestLaws.{picks_any}
use Rattle.rsx_kinds.specs.MergeRests.{left_open}
use Rattle.rsx_kinds.specs.QueuesRests.{AreEmpty, NothingNext, all_empty, nothing_rest, some_left}
use Rattle.rsx_tree.specs.Rests.{NothingComes}

never : (b : Bool) → b ≡ true → b ≡ false → ⊥
never b x y = cc

combine_empty : {T : Type 0} (row : List T → T) (latest : List (Option T)) (is : List (InputLeft T)) → AreEmpty is → 0 < length is → combine_until_stop row latest [] is ≡ Some (ended_by Open)
combine_empty row latest is e lt = ap (walk_until_stop row latest (length is) []) (nothing_rest is e) ∙ ap (λ k. Some (ended_by k)) (left_open (length is) lt)

-- nothing is next at any input, since it could be picked
pub latest_rests : {T : Type 0} (m : Meaning T) (n : LatestState T) (taken : List ℕ) (asked sent : ℕ) (inc : Incoming T) → IsLatestCounted n taken sent → latest_waiting m n ≡ None → sent < asked → AreWithin taken →
    ((i : ℕ) → i < 2 ^ 64 → latest_picks n i asked sent ≡ false) → NothingComes latest_takes latest_done latest_wanted n taken asked sent (inc.first ∷ inc.others) → latest_comes_out m n inc (Picks []) ≡ Some (ended_by Open)
latest_rests {T} m n taken asked sent inc counted waits more within picks none =
    empty_then n.output _ _ free ∙ combine_empty m.row_of n.latest (inputs_left 0 n.inputs (inc.first ∷ inc.others)) (all_empty 0 n.inputs taken (inc.first ∷ inc.others) counted.counts within nothing none) (some_left 0 n.inputs taken (inc.first ∷ inc.others) counted.counts within nothing none counted.some_left)
  where
    free : is_empty n.output ≡ true
    free = empty_of n.output waits counted.goes_on

    nothing : NothingNext n.inputs
    nothing i lt = by_next (next_signal_at (slice_get n.inputs i)) refl
      where
        by_next : (o : Option (Signal T)) → next_signal_at (slice_get n.inputs i) ≡ o → o ≡ None
        by_next None e = refl
        by_next (Some s) e = let few = counted.few in absurd (never (latest_picks n i asked sent) (rw (free, e) (picks_any s (gives_row n.latest i) asked sent more)) (picks i (omega (arith, lt, few))))
