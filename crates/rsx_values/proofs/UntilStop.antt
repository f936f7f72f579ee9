-- Where nothing is chosen behind the stop, the rows of latest items are the same.
use Rattle.std.proofs.Common.{◌≡◌, ℕ, ◌-◌, Bool, true, false, List, [], ◌∷◌, length, slice_set, Option, Some, None, option_map, option_and_then, refl, ap, sym, ◌∙◌}
use Rattle.std.specs.Prelude.{if◌then◌else◌}
use Rattle.rsx_types.specs.declared.signal.Ending.TheVariants.{Done}
use Rattle.rsx_types.specs.declared.signal.Signal.TheVariants.{Next, Complete, Error}
use Rattle.rsx_types.specs.Stream.{Stream, ended_by, item_then}
use Rattle.rsx_values.specs.Latest.{all_latest, combine, combine_latest, none_yet, row_first, stops, walk}
use Rattle.rsx_values.specs.Pick.{InputLeft, Taken, numbered, pick, rest_of}
use Rattle.rsx_values.specs.UntilStop.{behind_first, combine_until_stop, latest_until_stop, row_before, unless_chosen, walk_until_stop}

row_same : {T : Type 0} (row : List T → T) (o : Option (List T)) (p : Option (Stream T)) (u v : Stream T) → ((w : Stream T) → p ≡ Some w → u ≡ w) → row_before row o p ≡ Some v → row_first row o u ≡ v
row_same row None p u v same h = same v h
row_same row (Some xs) None u v same h = cc
row_same row (Some xs) (Some w) u v same h = ap (item_then (row xs)) (same w refl) ∙ some_is h
  where
    some_is : {A : Type 0} {a b : A} → Some a ≡ Some b → a ≡ b
    some_is e = cc

done_same : {T : Type 0} (cs : List ℕ) (v : Stream T) → unless_chosen cs ≡ Some v → ended_by Done ≡ v
done_same [] v h = cc
done_same (c ∷ cs) v h = cc

stop_same : {T : Type 0} (b : Bool) (cs : List ℕ) (p : Option (Stream T)) (u v : Stream T) → ((w : Stream T) → p ≡ Some w → u ≡ w) → (if b then unless_chosen cs else p) ≡ Some v → (if b then ended_by Done else u) ≡ v
stop_same true cs p u v same h = done_same cs v h
stop_same false cs p u v same h = same v h

pub walk_same : {T : Type 0} (row : List T → T) (latest : List (Option T)) (left : ℕ) (cs : List ℕ) (ts : List (Taken T)) (v : Stream T) → walk_until_stop row latest left cs ts ≡ Some v → walk row latest left ts ≡ v
walk_same row latest left cs [] v h = cc
walk_same row latest left cs ((n, Next x) ∷ ts) v h =
    let now = slice_set latest n (Some x) in
    row_same row (all_latest now) (walk_until_stop row now left (behind_first cs) ts) (walk row now left ts) v (walk_same row now left (behind_first cs) ts) h
walk_same row latest left cs ((n, Complete) ∷ ts) v h =
    stop_same (stops latest n left) (behind_first cs) (walk_until_stop row latest (left - 1) (behind_first cs) ts) (walk row latest (left - 1) ts) v (walk_same row latest (left - 1) (behind_first cs) ts) h
walk_same row latest left cs ((n, Error c) ∷ ts) v h = cc

pub combine_same : {T : Type 0} (row : List T → T) (latest : List (Option T)) (cs : List ℕ) (is : List (InputLeft T)) (v : Stream T) → combine_until_stop row latest cs is ≡ Some v → combine row latest cs is ≡ Some v
combine_same {T} row latest cs is v h = of (pick cs is) h
  where
    of : (o : Option (List (Taken T))) → option_and_then (walk_until_stop row latest (length is) cs) o ≡ Some v → option_map (walk row latest (length is)) o ≡ Some v
    of None e = cc
    of (Some ts) e = ap Some (walk_same row latest (length is) cs ts v e)

pub latest_same : {T : Type 0} (row : List T → T) (cs : List ℕ) (vs : List (Stream T)) (v : Stream T) → latest_until_stop row cs vs ≡ Some v → combine_latest row cs vs ≡ Some v
latest_same row cs vs v h = combine_same row (none_yet vs) cs (numbered 0 vs) v h

-- ---- with nothing chosen both are the same

row_there : {T : Type 0} (row : List T → T) (o : Option (List T)) (v : Stream T) → row_before row o (Some v) ≡ Some (row_first row o v)
row_there row None v = refl
row_there row (Some xs) v = refl

stop_there : {T : Type 0} (b : Bool) (p : Option (Stream T)) (u : Stream T) → p ≡ Some u → (if b then unless_chosen [] else p) ≡ Some (if b then ended_by Done else u)
stop_there true p u h = refl
stop_there false p u h = h

walk_unchosen : {T : Type 0} (row : List T → T) (latest : List (Option T)) (left : ℕ) (ts : List (Taken T)) → walk_until_stop row latest left [] ts ≡ Some (walk row latest left ts)
walk_unchosen row latest left [] = refl
walk_unchosen row latest left ((n, Next x) ∷ ts) =
    let now = slice_set latest n (Some x) in
    ap (row_before row (all_latest now)) (walk_unchosen row now left ts) ∙ row_there row (all_latest now) (walk row now left ts)
walk_unchosen row latest left ((n, Complete) ∷ ts) =
    stop_there (stops latest n left) (walk_until_stop row latest (left - 1) [] ts) (walk row latest (left - 1) ts) (walk_unchosen row latest (left - 1) ts)
walk_unchosen row latest left ((n, Error c) ∷ ts) = refl

pub combine_unchosen : {T : Type 0} (row : List T → T) (latest : List (Option T)) (is : List (InputLeft T)) → combine row latest [] is ≡ combine_until_stop row latest [] is
combine_unchosen row latest is = sym (walk_unchosen row latest (length is) (rest_of is))
