-- The laws of a combineLatest as a node.
use Rattle.std.specs.Prelude.{◌≡◌, ℕ, ◌-◌, ◌<◌, ◌||◌, not, Bool, true, false, nat_eq, nat_lt, if◌then◌else◌, List, [], ◌∷◌, ◌++◌, length, slice_set, Option, Some, None, option_map, refl}
use Rattle.std.proofs.Common.{inl, inr, sym, ap, ◌∙◌, subst, arith}
use Rattle.std.proofs.lemmas.Bool.Decides.{nat_tests}
use Rattle.rsx_sources.specs.Prelude.{Note, Open, Done, Failed, Signal, Next, Complete, Error, Meaning, unchosen, Stream, ended_by, item_then, AreWithin, CanStep, IsHungry, ends_input, Incoming, incoming_of}
use Rattle.rsx_queued.specs.Prelude.{inputs_left, picked, ended_out, offers_ending, ending_there, empty_of, settled, same_row, done_left, picked_same, is_empty, output_then}
use Rattle.rsx_queued.proofs.Wanting.{Scanned, scan}
use Rattle.rsx_values.specs.Prelude.{Taken as TakenSignal, rest_of, all_latest, row_before, stops, unless_chosen, walk_until_stop, combine_until_stop}
use Rattle.rsx_combining.specs.Latest.{LatestState, latest_of, latest_comes_out, latest_waiting, latest_takes, gives_row, may_pick, latest_picks, latest_recorded, latest_ended, latest_done, IsLatestCounted, latest_wanted}

-- ---- what comes in no longer matters

pub latest_drops : {T : Type 0} (m : Meaning T) (n : LatestState T) (inc other : Incoming T) (further : Note) → latest_ended n ≡ true → latest_comes_out m n inc further ≡ latest_comes_out m n other further
latest_drops m n inc other further e =
    let of : Incoming _ → List ℕ → Option (Stream _) = λ c cs. combine_until_stop m.row_of n.latest cs (inputs_left 0 n.inputs (c.first ∷ c.others)) in
    picked_same further (λ cs. output_then n.output (of inc cs) (unless_chosen cs)) (λ cs. output_then n.output (of other cs) (unless_chosen cs)) (λ cs. ended_out n.output (of inc cs) (of other cs) (unless_chosen cs) e)

pub latest_ends : {T : Type 0} (m : Meaning T) (n : LatestState T) (s : Signal T) (inc other : Incoming T) (further : Note) → latest_waiting m n ≡ Some s → ends_input s ≡ true → latest_comes_out m n inc further ≡ latest_comes_out m n other further
latest_ends m n s inc other further w e = latest_drops m n inc other further (offers_ending n.output s w e)

-- ---- nor does what comes in behind an ending

pub latest_done_drops : {T : Type 0} (m : Meaning T) (n : LatestState T) (hubs before after : List (Stream T)) (v w : Stream T) (further : Note) → latest_done n (length before) ≡ true →
    latest_comes_out m n (incoming_of hubs (before ++ v ∷ after)) further ≡ latest_comes_out m n (incoming_of hubs (before ++ w ∷ after)) further
latest_done_drops m n hubs before after v w further d =
    ap (λ l. latest_of m n.output n.latest n.inputs l further) (same_row hubs before after v)
    ∙ ap (λ is. picked further (λ cs. output_then n.output (combine_until_stop m.row_of n.latest cs is) (unless_chosen cs))) (done_left 0 n.inputs before after v w d)
    ∙ ap (λ l. latest_of m n.output n.latest n.inputs l further) (sym (same_row hubs before after w))

-- ---- where nothing more is chosen, something comes out

some_row : {T : Type 0} (row : List T → T) (o : Option (List T)) (p : Option (Stream T)) → (v : Stream T) × (p ≡ Some v) → (w : Stream T) × (row_before row o p ≡ Some w)
some_row row None p h = h
some_row row (Some xs) p h = (item_then (row xs) h.0, ap (option_map (item_then (row xs))) h.1)

pub some_walk : {T : Type 0} (row : List T → T) (latest : List (Option T)) (left : ℕ) (ts : List (TakenSignal T)) → (v : Stream T) × (walk_until_stop row latest left [] ts ≡ Some v)
some_walk row latest left [] = (ended_by (if nat_eq left 0 then Done else Open), refl)
some_walk row latest left ((n, Next x) ∷ ts) = some_row row (all_latest (slice_set latest n (Some x))) (walk_until_stop row (slice_set latest n (Some x)) left [] ts) (some_walk row (slice_set latest n (Some x)) left ts)
some_walk {T} row latest left ((n, Complete) ∷ ts) = by_test (stops latest n left) (some_walk row latest (left - 1) ts)
  where
    by_test : (b : Bool) → (v : Stream T) × (walk_until_stop row latest (left - 1) [] ts ≡ Some v) → (v : Stream T) × ((if b then unless_chosen [] else walk_until_stop row latest (left - 1) [] ts) ≡ Some v)
    by_test true h = (ended_by Done, refl)
    by_test false h = h
some_walk row latest left ((n, Error c) ∷ ts) = (ended_by (Failed c), refl)

pub latest_settles : {T : Type 0} (m : Meaning T) (n : LatestState T) (inc : Incoming T) → (v : Stream T) × (latest_comes_out m n inc (unchosen (latest_recorded n)) ≡ Some v)
latest_settles {T} m n inc =
    let is = inputs_left 0 n.inputs (inc.first ∷ inc.others) in
    let some = some_walk m.row_of n.latest (length is) (rest_of is) in
    let P : Option (Stream T) → Type 0 = λ o. (v : Stream T) × (output_then n.output o (Some (ended_by Done)) ≡ Some v) in
    subst P (sym some.1) (settled n.output some.0 (ended_by Done))

-- ---- the ending that it put out waits, and so it is offered

pub latest_ending_waits : {T : Type 0} (m : Meaning T) (n : LatestState T) (asked sent : ℕ) → latest_ended n ≡ true → latest_waiting m n ≡ None → sent < asked → CanStep latest_picks (λ k a s. false) n asked sent
latest_ending_waits m n asked sent e none more = absurd (ending_there n.output e none)

-- ---- where nothing waits, an input can be picked, or more is wanted

less_is : (a b : ℕ) → a < b → nat_lt a b ≡ true
less_is a b lt = grind (arith, nat_tests)

pub picks_any : {T : Type 0} (s : Signal T) (row : Bool) (asked sent : ℕ) → sent < asked → may_pick (Some s) row asked sent ≡ true
picks_any (Next x) row asked sent lt = ap (λ b. b || not row) (less_is sent asked lt)
picks_any Complete row asked sent lt = refl
picks_any (Error c) row asked sent lt = refl

pub latest_hungry : {T : Type 0} (m : Meaning T) (n : LatestState T) (taken : List ℕ) (asked sent : ℕ) → latest_ended n ≡ false → IsLatestCounted n taken sent → latest_waiting m n ≡ None → sent < asked → AreWithin taken →
    IsHungry latest_takes latest_picks (λ k a s. false) latest_done latest_wanted (λ n. None) n taken asked sent
latest_hungry m n taken asked sent e h none more within = of (scan n.inputs taken h.counts within h.some_left)
  where
    free : is_empty n.output ≡ true
    free = empty_of n.output none h.goes_on

    of : Scanned n.inputs taken → IsHungry latest_takes latest_picks (λ k a s. false) latest_done latest_wanted (λ n. None) n taken asked sent
    of (inl p) = let lt = p.within in let few = h.few in inl (p.i, omega arith, rw (free, p.next) (picks_any p.signal (gives_row n.latest p.i) asked sent more))
    of (inr p) = inr (inr (inl (record { i = p.i; c = p.c; at = p.at; open_still = p.open_still; takes_any = p.takes_any; wants = p.wants })))
