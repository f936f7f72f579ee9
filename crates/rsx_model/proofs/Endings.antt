-- How operators over several inputs end: never by the failure of a bad request, where no input ends so.
use Rattle.std.proofs.Common.{◌≡◌, ◌≢◌, ℕ, zero, suc, ◌+◌, ◌-◌, Bool, true, false, nat_eq, if◌then◌else◌, List, [], ◌∷◌, ◌++◌, map, Option, Some, None, option_map, option_and_then, slice_get, slice_set, refl, subst}
use Rattle.rsx_values.specs.Prelude.{NonPositiveRequest, Ending, Open, Done, Failed, Signal, Next, Complete, Error, Stream, ended_by, ending_signals, item_then, concat, unless_open, merge, merged, taken_ending, main_input, merged_lanes, merged_lanes_delay, InputLeft, Taken, numbered, is_failure, left_after, next_here, next_of, up_to_failure, rest_of, no_more, chosen_before, pick, all_latest, row_first, stops, walk, none_yet, combine_latest, latest_by, latest_until_stop, items_of, shortest, ends_after, first_ending, ending_after, zip_ending, zip_rows, zip}
use Rattle.rsx_types.specs.declared.signal.Cause.{Cause}
use Rattle.rsx_values.specs.Delayed.{all_of, delayed_ending, ending_of, first_cause, goes_on, merge_delay, merged_delayed, pick_all, rest_of_all}
use Rattle.rsx_values.specs.Eager.{eager, eager_of, failure_here}
use Rattle.rsx_values.proofs.UntilStop.{latest_same}
use Rattle.rsx_model.specs.Eval.{Meant, in_order}
use Rattle.rsx_model.proofs.Unfold.{Each}

abbrev pub Fine : Ending → Type 0
Fine e = e ≢ Failed NonPositiveRequest

-- a value, if there is one
abbrev pub AllFine : {T : Type 0} → Option (Stream T) → Type 0
AllFine None = Unit {0}
AllFine (Some s) = Fine s.ending

-- values, if there are any
abbrev pub FineValues : {T : Type 0} → Option (List (Stream T)) → Type 0
FineValues None = Unit {0}
FineValues {T} (Some vs) = Each (λ (v : Stream T). Fine v.ending) vs

-- what a subtree means, wherever it stands
abbrev pub FineMeant : {T : Type 0} → Meant T → Type 0
FineMeant m = (at leaf : ℕ) → AllFine (m.value at leaf)

one_more : {T : Type 0} (o : Option (Stream T)) (os : Option (List (Stream T))) → AllFine o → FineValues os → FineValues (option_and_then (λ s. option_map (λ ss. s ∷ ss) os) o)
one_more None os h hs = tt
one_more (Some s) None h hs = tt
one_more (Some s) (Some ss) h hs = (h, hs)

pub in_order_fine : {T : Type 0} (ms : List (Meant T)) → Each FineMeant ms → (at leaf : ℕ) → FineValues (in_order ms at leaf)
in_order_fine [] h at leaf = tt
in_order_fine (m ∷ ms) h at leaf = one_more (m.value at leaf) (in_order ms (at + m.nodes) (leaf + m.leaves)) (h.0 at leaf) (in_order_fine ms h.1 (at + m.nodes) (leaf + m.leaves))

-- ---- concat

after_fine : {T : Type 0} (e : Ending) (rest : Stream T) → Fine e → Fine rest.ending → Fine (unless_open e rest).ending
after_fine Open rest h more = h
after_fine Done rest h more = more
after_fine (Failed c) rest h more = h

concat_fine : {T : Type 0} (vs : List (Stream T)) → Each (λ (v : Stream T). Fine v.ending) vs → Fine (concat vs).ending
concat_fine [] h = λ p. cc
concat_fine (v ∷ vs) h = after_fine v.ending (concat vs) h.0 (concat_fine vs h.1)

pub concat_values_fine : {T : Type 0} (o : Option (List (Stream T))) → FineValues o → AllFine (option_map concat o)
concat_values_fine None h = tt
concat_values_fine (Some vs) h = concat_fine vs h

-- ---- the signals of a pick

abbrev FineSignal : {T : Type 0} → Signal T → Type 0
FineSignal (Next x) = Unit {0}
FineSignal Complete = Unit {0}
FineSignal (Error c) = Fine (Failed c)

abbrev FineLeft : {T : Type 0} → List (InputLeft T) → Type 0
FineLeft {T} is = Each (λ (i : InputLeft T). Each (λ (s : Signal T). FineSignal s) i.1) is

abbrev FineTaken : {T : Type 0} → List (Taken T) → Type 0
FineTaken {T} ts = Each (λ (t : Taken T). FineSignal t.1) ts

abbrev FinePick : {T : Type 0} → Option (List (Taken T)) → Type 0
FinePick None = Unit {0}
FinePick (Some ts) = FineTaken ts

ending_fine : (T : Type 0) (e : Ending) → Fine e → Each (λ (s : Signal T). FineSignal s) (ending_signals {T = T} e)
ending_fine T Open h = tt
ending_fine T Done h = (tt, tt)
ending_fine T (Failed c) h = (h, tt)

items_fine : {T : Type 0} (xs : List T) (ss : List (Signal T)) → Each (λ (s : Signal T). FineSignal s) ss → Each (λ (s : Signal T). FineSignal s) (map Next xs ++ ss)
items_fine [] ss h = h
items_fine (x ∷ xs) ss h = (tt, items_fine xs ss h)

numbered_fine : {T : Type 0} (n : ℕ) (vs : List (Stream T)) → Each (λ (v : Stream T). Fine v.ending) vs → FineLeft (numbered n vs)
numbered_fine n [] h = tt
numbered_fine {T} n (v ∷ vs) h = (items_fine v.items (ending_signals v.ending) (ending_fine T v.ending h.0), numbered_fine (suc n) vs h.1)

-- the next signal of an input, and what is left
abbrev FineNext : {T : Type 0} → Option (Signal T × List (InputLeft T)) → Type 0
FineNext None = Unit {0}
FineNext (Some p) = FineSignal p.0 × FineLeft p.1

left_fine : {T : Type 0} (n : ℕ) (s : Signal T) (ss : List (Signal T)) (is : List (InputLeft T)) → Each (λ (x : Signal T). FineSignal x) ss → FineLeft is → FineLeft (left_after n s ss is)
left_fine n (Next x) ss is h hs = (h, hs)
left_fine n Complete ss is h hs = hs
left_fine n (Error c) ss is h hs = hs

here_fine : {T : Type 0} (n : ℕ) (ss : List (Signal T)) (is : List (InputLeft T)) → Each (λ (x : Signal T). FineSignal x) ss → FineLeft is → FineNext (next_here n ss is)
here_fine n [] is h hs = tt
here_fine n (s ∷ ss) is h hs = (h.0, left_fine n s ss is h.1 hs)

behind_fine : {T : Type 0} (i : InputLeft T) (o : Option (Signal T × List (InputLeft T))) → Each (λ (x : Signal T). FineSignal x) i.1 → FineNext o → FineNext (option_map (λ p. (p.0, i ∷ p.1)) o)
behind_fine i None h hs = tt
behind_fine i (Some p) h hs = (hs.0, (h, hs.1))

either_fine : {T : Type 0} (b : Bool) (o p : Option (Signal T × List (InputLeft T))) → FineNext o → FineNext p → FineNext (if b then o else p)
either_fine true o p h k = h
either_fine false o p h k = k

next_fine : {T : Type 0} (c : ℕ) (is : List (InputLeft T)) → FineLeft is → FineNext (next_of c is)
next_fine c [] h = tt
next_fine c (i ∷ is) h = either_fine (nat_eq c i.0) (next_here i.0 i.1 is) (option_map (λ p. (p.0, i ∷ p.1)) (next_of c is)) (here_fine i.0 i.1 is h.0 h.1) (behind_fine i (next_of c is) h.0 (next_fine c is h.1))

cut_fine : {T : Type 0} (b : Bool) (ts : List (Taken T)) → FineTaken ts → FineTaken (if b then [] else ts)
cut_fine true ts h = tt
cut_fine false ts h = h

up_to_fine : {T : Type 0} (n : ℕ) (ss : List (Signal T)) (rest : List (Taken T)) → Each (λ (x : Signal T). FineSignal x) ss → FineTaken rest → FineTaken (up_to_failure n ss rest)
up_to_fine n [] rest h hs = hs
up_to_fine n (s ∷ ss) rest h hs = (h.0, cut_fine (is_failure s) (up_to_failure n ss rest) (up_to_fine n ss rest h.1 hs))

rest_fine : {T : Type 0} (is : List (InputLeft T)) → FineLeft is → FineTaken (rest_of is)
rest_fine [] h = tt
rest_fine (i ∷ is) h = up_to_fine i.0 i.1 (rest_of is) h.0 (rest_fine is h.1)

first_fine : {T : Type 0} (c : ℕ) (s : Signal T) (o : Option (List (Taken T))) → FineSignal s → FinePick o → FinePick (option_map (λ ts. (c, s) ∷ ts) o)
first_fine c s None h hs = tt
first_fine c s (Some ts) h hs = (h, hs)

no_more_fine : (T : Type 0) (cs : List ℕ) → FinePick (no_more {T = T} cs)
no_more_fine T [] = tt
no_more_fine T (c ∷ cs) = tt

unless_fine : {T : Type 0} (b : Bool) (o p : Option (List (Taken T))) → FinePick o → FinePick p → FinePick (if b then o else p)
unless_fine true o p h k = h
unless_fine false o p h k = k

chosen_fine : {T : Type 0} (c : ℕ) (cs : List ℕ) (o : Option (Signal T × List (InputLeft T))) (rest : List (InputLeft T) → Option (List (Taken T))) → FineNext o → ((is : List (InputLeft T)) → FineLeft is → FinePick (rest is)) → FinePick (chosen_before c cs o rest)
chosen_fine c cs None rest h more = tt
chosen_fine {T} c cs (Some (s, is)) rest h more =
    first_fine c s (if is_failure s then no_more cs else rest is) h.0 (unless_fine (is_failure s) (no_more cs) (rest is) (no_more_fine T cs) (more is h.1))

pick_fine : {T : Type 0} (cs : List ℕ) (is : List (InputLeft T)) → FineLeft is → FinePick (pick cs is)
pick_fine [] is h = rest_fine is h
pick_fine (c ∷ cs) is h = chosen_fine c cs (next_of c is) (λ js. pick cs js) (next_fine c is h) (λ js k. pick_fine cs js k)

-- ---- merge

whole_fine : (b : Bool) → Fine (if b then Done else Open)
whole_fine true = λ p. cc
whole_fine false = λ p. cc

taken_fine : {T : Type 0} (left : ℕ) (ts : List (Taken T)) → FineTaken ts → Fine (taken_ending left ts)
taken_fine left [] h = whole_fine (nat_eq left 0)
taken_fine left ((n, Next x) ∷ ts) h = taken_fine left ts h.1
taken_fine left ((n, Complete) ∷ ts) h = taken_fine (left - 1) ts h.1
taken_fine left ((n, Error c) ∷ ts) h = h.0

merged_fine : {T : Type 0} (left : ℕ) (o : Option (List (Taken T))) → FinePick o → AllFine (option_map (merged left) o)
merged_fine left None h = tt
merged_fine left (Some ts) h = taken_fine left ts h

pub merge_values_fine : {T : Type 0} (cs : List ℕ) (o : Option (List (Stream T))) → FineValues o → AllFine (option_and_then (merge cs) o)
merge_values_fine cs None h = tt
merge_values_fine cs (Some vs) h = merged_fine _ (pick cs (numbered 0 vs)) (pick_fine cs (numbered 0 vs) (numbered_fine 0 vs h))

-- ---- the merge that delays failures

all_of_fine : {T : Type 0} (n : ℕ) (ss : List (Signal T)) (rest : List (Taken T)) → Each (λ (x : Signal T). FineSignal x) ss → FineTaken rest → FineTaken (all_of n ss rest)
all_of_fine n [] rest h hs = hs
all_of_fine n (s ∷ ss) rest h hs = (h.0, all_of_fine n ss rest h.1 hs)

all_fine : {T : Type 0} (is : List (InputLeft T)) → FineLeft is → FineTaken (rest_of_all is)
all_fine [] h = tt
all_fine (i ∷ is) h = all_of_fine i.0 i.1 (rest_of_all is) h.0 (all_fine is h.1)

goes_on_fine : {T : Type 0} (c : ℕ) (o : Option (Signal T × List (InputLeft T))) (rest : List (InputLeft T) → Option (List (Taken T))) → FineNext o → ((is : List (InputLeft T)) → FineLeft is → FinePick (rest is)) → FinePick (goes_on c o rest)
goes_on_fine c None rest h more = tt
goes_on_fine c (Some (s, is)) rest h more = first_fine c s (rest is) h.0 (more is h.1)

pick_all_fine : {T : Type 0} (cs : List ℕ) (is : List (InputLeft T)) → FineLeft is → FinePick (pick_all cs is)
pick_all_fine [] is h = all_fine is h
pick_all_fine (c ∷ cs) is h = goes_on_fine c (next_of c is) (λ js. pick_all cs js) (next_fine c is h) (λ js k. pick_all_fine cs js k)

-- the failure that was taken first, if one was
abbrev FineKept : Option Cause → Type 0
FineKept None = Unit {0}
FineKept (Some c) = Fine (Failed c)

first_cause_fine : (kept : Option Cause) (c : Cause) → FineKept kept → Fine (Failed c) → FineKept (first_cause kept c)
first_cause_fine None c h k = k
first_cause_fine (Some d) c h k = h

kept_fine : (kept : Option Cause) → FineKept kept → Fine (ending_of kept)
kept_fine None h = λ p. cc
kept_fine (Some c) h = h

held_fine : (b : Bool) (kept : Option Cause) → FineKept kept → Fine (if b then ending_of kept else Open)
held_fine true kept h = kept_fine kept h
held_fine false kept h = λ p. cc

delayed_fine : {T : Type 0} (left : ℕ) (kept : Option Cause) (ts : List (Taken T)) → FineKept kept → FineTaken ts → Fine (delayed_ending left kept ts)
delayed_fine left kept [] k h = held_fine (nat_eq left 0) kept k
delayed_fine left kept ((n, Next x) ∷ ts) k h = delayed_fine left kept ts k h.1
delayed_fine left kept ((n, Complete) ∷ ts) k h = delayed_fine (left - 1) kept ts k h.1
delayed_fine left kept ((n, Error c) ∷ ts) k h = delayed_fine (left - 1) (first_cause kept c) ts (first_cause_fine kept c k h.0) h.1

merged_delayed_fine : {T : Type 0} (left : ℕ) (o : Option (List (Taken T))) → FinePick o → AllFine (option_map (merged_delayed left None) o)
merged_delayed_fine left None h = tt
merged_delayed_fine left (Some ts) h = delayed_fine left None ts tt h

pub merge_delay_values_fine : {T : Type 0} (cs : List ℕ) (o : Option (List (Stream T))) → FineValues o → AllFine (option_and_then (merge_delay cs) o)
merge_delay_values_fine cs None h = tt
merge_delay_values_fine cs (Some vs) h = merged_delayed_fine _ (pick_all cs (numbered 0 vs)) (pick_all_fine cs (numbered 0 vs) (numbered_fine 0 vs h))

-- ---- lanes and Main

main_fine : {T : Type 0} (n : ℕ) (vs : List (Stream T)) (e : Ending) → Each (λ (v : Stream T). Fine v.ending) vs → Fine e → FineLeft (numbered n vs ++ main_input e)
main_fine {T} n [] e hs h = (ending_fine T e h, tt)
main_fine {T} n (v ∷ vs) e hs h = (items_fine v.items (ending_signals v.ending) (ending_fine T v.ending hs.0), main_fine (suc n) vs e hs.1 h)

pub merged_lanes_fine : {T : Type 0} (cs : List ℕ) (vs : List (Stream T)) (e : Ending) → Each (λ (v : Stream T). Fine v.ending) vs → Fine e → AllFine (merged_lanes cs vs e)
merged_lanes_fine cs vs e hs h = merged_fine _ (pick cs (numbered 0 vs ++ main_input e)) (pick_fine cs (numbered 0 vs ++ main_input e) (main_fine 0 vs e hs h))

pub merged_lanes_delay_fine : {T : Type 0} (cs : List ℕ) (vs : List (Stream T)) (e : Ending) → Each (λ (v : Stream T). Fine v.ending) vs → Fine e → AllFine (merged_lanes_delay cs vs e)
merged_lanes_delay_fine cs vs e hs h = merged_delayed_fine _ (pick_all cs (numbered 0 vs ++ main_input e)) (pick_all_fine cs (numbered 0 vs ++ main_input e) (main_fine 0 vs e hs h))

-- ---- publishOnEager

failure_fine : (T : Type 0) (e : Ending) (cs : List ℕ) → Fine e → AllFine (failure_here {T = T} e cs)
failure_fine T Open cs h = tt
failure_fine T Done cs h = tt
failure_fine T (Failed c) [] h = h
failure_fine T (Failed c) (d ∷ cs) h = tt

item_fine : {T : Type 0} (x : T) (o : Option (Stream T)) → AllFine o → AllFine (option_map (item_then x) o)
item_fine x None h = tt
item_fine x (Some v) h = h

eager_fine : {T : Type 0} (cs : List ℕ) (xs : List T) (e : Ending) → Fine e → AllFine (eager cs xs e)
eager_fine [] xs e h = h
eager_fine (zero ∷ cs) [] e h = tt
eager_fine (zero ∷ cs) (x ∷ xs) e h = item_fine x (eager cs xs e) (eager_fine cs xs e h)
eager_fine {T} (suc zero ∷ cs) xs e h = failure_fine T e cs h
eager_fine (suc (suc n) ∷ cs) xs e h = tt

pub eager_values_fine : {T : Type 0} (cs : List ℕ) (o : Option (Stream T)) → AllFine o → AllFine (option_and_then (eager_of cs) o)
eager_values_fine cs None h = tt
eager_values_fine cs (Some v) h = eager_fine cs v.items v.ending h

-- ---- combineLatest

rows_then_fine : {T : Type 0} (row : List T → T) (xs : Option (List T)) (v : Stream T) → Fine v.ending → Fine (row_first row xs v).ending
rows_then_fine row None v h = h
rows_then_fine row (Some xs) v h = h

done_fine : (T : Type 0) → Fine (ended_by {T = T} Done).ending
done_fine T = λ p. cc

stop_fine : {T : Type 0} (b : Bool) (u v : Stream T) → Fine u.ending → Fine v.ending → Fine (if b then u else v).ending
stop_fine true u v h k = h
stop_fine false u v h k = k

walk_fine : {T : Type 0} (row : List T → T) (latest : List (Option T)) (left : ℕ) (ts : List (Taken T)) → FineTaken ts → Fine (walk row latest left ts).ending
walk_fine row latest left [] h = whole_fine (nat_eq left 0)
walk_fine row latest left ((n, Next x) ∷ ts) h =
    rows_then_fine row (all_latest (slice_set latest n (Some x))) (walk row (slice_set latest n (Some x)) left ts) (walk_fine row (slice_set latest n (Some x)) left ts h.1)
walk_fine {T} row latest left ((n, Complete) ∷ ts) h = stop_fine (stops latest n left) (ended_by Done) (walk row latest (left - 1) ts) (done_fine T) (walk_fine row latest (left - 1) ts h.1)
walk_fine row latest left ((n, Error c) ∷ ts) h = h.0

walked_fine : {T : Type 0} (row : List T → T) (latest : List (Option T)) (left : ℕ) (o : Option (List (Taken T))) → FinePick o → AllFine (option_map (walk row latest left) o)
walked_fine row latest left None h = tt
walked_fine row latest left (Some ts) h = walk_fine row latest left ts h

combined_fine : {T : Type 0} (row : List T → T) (cs : List ℕ) (vs : List (Stream T)) → FineValues (Some vs) → AllFine (combine_latest row cs vs)
combined_fine row cs vs h = walked_fine row (none_yet vs) _ (pick cs (numbered 0 vs)) (pick_fine cs (numbered 0 vs) (numbered_fine 0 vs h))

-- with nothing chosen behind the stop it is the same value or none
until_stop_fine : {T : Type 0} (o p : Option (Stream T)) → ((v : Stream T) → o ≡ Some v → p ≡ Some v) → AllFine p → AllFine o
until_stop_fine None p same h = tt
until_stop_fine (Some v) p same h = subst AllFine (same v refl) h

by_fine : {T : Type 0} (until_stop : Bool) (row : List T → T) (cs : List ℕ) (vs : List (Stream T)) → FineValues (Some vs) → AllFine (latest_by until_stop row cs vs)
by_fine true row cs vs h = until_stop_fine (latest_until_stop row cs vs) (combine_latest row cs vs) (latest_same row cs vs) (combined_fine row cs vs h)
by_fine false row cs vs h = combined_fine row cs vs h

pub latest_values_fine : {T : Type 0} (until_stop : Bool) (row : List T → T) (cs : List ℕ) (o : Option (List (Stream T))) → FineValues o → AllFine (option_and_then (latest_by until_stop row cs) o)
latest_values_fine until_stop row cs None h = tt
latest_values_fine until_stop row cs (Some vs) h = by_fine until_stop row cs vs h

-- ---- zip

chosen_ending : (b : Bool) (e f : Ending) → Fine e → Fine f → Fine (if b then e else f)
chosen_ending true e f h k = h
chosen_ending false e f h k = k

first_ending_fine : {T : Type 0} (n : ℕ) (vs : List (Stream T)) → Each (λ (v : Stream T). Fine v.ending) vs → Fine (first_ending n vs)
first_ending_fine n [] h = λ p. cc
first_ending_fine n (v ∷ vs) h = chosen_ending (ends_after n v) v.ending (first_ending n vs) h.0 (first_ending_fine n vs h.1)

abbrev FineEnding : Option Ending → Type 0
FineEnding None = Unit {0}
FineEnding (Some e) = Fine e

if_ended : (b : Bool) (e : Ending) → Fine e → FineEnding (if b then Some e else None)
if_ended true e h = h
if_ended false e h = tt

recorded_fine : {T : Type 0} (n : ℕ) (o : Option (Stream T)) → AllFine o → FineEnding (ending_after n o)
recorded_fine n None h = tt
recorded_fine n (Some v) h = if_ended (ends_after n v) v.ending h

at_fine : {T : Type 0} (vs : List (Stream T)) (i : ℕ) → Each (λ (v : Stream T). Fine v.ending) vs → AllFine (slice_get vs i)
at_fine [] i h = tt
at_fine (v ∷ vs) zero h = h.0
at_fine (v ∷ vs) (suc i) h = at_fine vs i h.1

zip_ending_fine : {T : Type 0} (n : ℕ) (recorded : Option ℕ) (vs : List (Stream T)) → Each (λ (v : Stream T). Fine v.ending) vs → FineEnding (zip_ending n recorded vs)
zip_ending_fine n None vs h = first_ending_fine n vs h
zip_ending_fine n (Some i) vs h = recorded_fine n (slice_get vs i) (at_fine vs i h)

rows_fine : {T : Type 0} (row : List T → T) (n : ℕ) (vs : List (Stream T)) (o : Option Ending) → FineEnding o → AllFine (option_map (zip_rows row n vs) o)
rows_fine row n vs None h = tt
rows_fine row n vs (Some e) h = h

pub zip_values_fine : {T : Type 0} (row : List T → T) (recorded : Option ℕ) (o : Option (List (Stream T))) → FineValues o → AllFine (option_and_then (zip row recorded) o)
zip_values_fine row recorded None h = tt
zip_values_fine row recorded (Some vs) h =
    rows_fine row (shortest (items_of vs)) vs (zip_ending (shortest (items_of vs)) recorded vs) (zip_ending_fine (shortest (items_of vs)) recorded vs h)
