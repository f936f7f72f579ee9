-- What still comes out of a merge that delays failures, where nothing more is chosen.
use Rattle.std.proofs.Common.{◌≡◌, ℕ, suc, List, [], ◌∷◌, ◌++◌, map, length, Option, Some, None, refl, ap, ◌∙◌}
use Rattle.std.specs.Prelude.{⊤}
use Rattle.rsx_sources.specs.Prelude.{Note, Picks, Cause, Ending, Open, Done, Failed, Next, Stream, ended_by, ending_signals, incoming_of, item_then, items_then, note_then}
use Rattle.rsx_values.specs.Pick.{InputLeft, Taken, numbered}
use Rattle.rsx_queued.proofs.Picks.{none_more, padded}
use Rattle.rsx_queued.specs.declared.input.QueuedInput.{QueuedInput}
use Rattle.rsx_queued.specs.declared.output.Output.{Output}
use Rattle.rsx_queued.specs.Prelude.{head_of, here, inputs_left, output_then, still, tail_of}
use Rattle.rsx_values.specs.Delayed.{all_of, merge_delay, merge_delayed_inputs, merged_delayed, rest_of_all}
use Rattle.rsx_delayed.specs.MergeDelay.{delayed_behind, delayed_of}
use Rattle.rsx_delayed.specs.Rest.{all_values, kept_behind, left_behind, value_before, values_left}

-- all of a value, and then the others
pub value_taken : {T : Type 0} (n left : ℕ) (kept : Option Cause) (xs : List T) (e : Ending) (rest : List (Taken T)) →
    merged_delayed left kept (all_of n (map Next xs ++ ending_signals e) rest) ≡ items_then xs (merged_delayed (left_behind left e) (kept_behind kept e) rest)
value_taken n left kept [] Open rest = refl
value_taken n left kept [] Done rest = refl
value_taken n left kept [] (Failed c) rest = refl
value_taken n left kept (x ∷ xs) e rest = ap (item_then x) (value_taken n left kept xs e rest)

before_taken : {T : Type 0} (n left : ℕ) (kept : Option Cause) (o : Option (Stream T)) (is : List (InputLeft T)) (vs : List (Stream T)) → ((k : ℕ) (f : Option Cause) → merged_delayed k f (rest_of_all is) ≡ all_values k f vs) →
    merged_delayed left kept (rest_of_all (here n o is)) ≡ all_values left kept (value_before o vs)
before_taken n left kept None is vs h = h left kept
before_taken n left kept (Some v) is vs h = value_taken n left kept v.items v.ending (rest_of_all is) ∙ ap (items_then v.items) (h (left_behind left v.ending) (kept_behind kept v.ending))

inputs_taken : {T : Type 0} (k left : ℕ) (kept : Option Cause) (qs : List (QueuedInput T)) (vs : List (Stream T)) → merged_delayed left kept (rest_of_all (inputs_left k qs vs)) ≡ all_values left kept (values_left qs vs)
inputs_taken k left kept [] vs = refl
inputs_taken k left kept (q ∷ qs) vs = before_taken k left kept (still q (head_of vs)) (inputs_left (suc k) qs (tail_of vs)) (values_left qs (tail_of vs)) (λ l f. inputs_taken (suc k) l f qs (tail_of vs))

as_many_before : {T : Type 0} (k : ℕ) (o : Option (Stream T)) (is : List (InputLeft T)) (vs : List (Stream T)) → length is ≡ length vs → length (here k o is) ≡ length (value_before o vs)
as_many_before k None is vs e = e
as_many_before k (Some v) is vs e = ap suc e

as_many : {T : Type 0} (k : ℕ) (qs : List (QueuedInput T)) (vs : List (Stream T)) → length (inputs_left k qs vs) ≡ length (values_left qs vs)
as_many k [] vs = refl
as_many k (q ∷ qs) vs = as_many_before k (still q (head_of vs)) (inputs_left (suc k) qs (tail_of vs)) (values_left qs (tail_of vs)) (as_many (suc k) qs (tail_of vs))

rest_taken : {T : Type 0} (k : ℕ) (kept : Option Cause) (qs : List (QueuedInput T)) (vs : List (Stream T)) →
    merge_delayed_inputs kept [] (inputs_left k qs vs) ≡ Some (all_values (length (values_left qs vs)) kept (values_left qs vs))
rest_taken k kept qs vs = ap Some (inputs_taken k (length (inputs_left k qs vs)) kept qs vs ∙ ap (λ n. all_values n kept (values_left qs vs)) (as_many k qs vs))

-- ---- whole values, of which nothing is chosen

numbered_taken : {T : Type 0} (n left : ℕ) (kept : Option Cause) (vs : List (Stream T)) → merged_delayed left kept (rest_of_all (numbered n vs)) ≡ all_values left kept vs
numbered_taken n left kept [] = refl
numbered_taken n left kept (v ∷ vs) = before_taken n left kept (Some v) (numbered (suc n) vs) vs (λ l f. numbered_taken (suc n) l f vs)

as_many_numbered : {T : Type 0} (n : ℕ) (vs : List (Stream T)) → length (numbered n vs) ≡ length vs
as_many_numbered n [] = refl
as_many_numbered n (v ∷ vs) = ap suc (as_many_numbered (suc n) vs)

pub nothing_chosen : {T : Type 0} (vs : List (Stream T)) → merge_delay [] vs ≡ Some (all_values (length vs) None vs)
nothing_chosen vs = ap Some (numbered_taken 0 (length (numbered 0 vs)) None vs ∙ ap (λ n. all_values n None vs) (as_many_numbered 0 vs))

-- ---- the node

-- where these choices are the last
pub rest_out : {T : Type 0} (out : Output T) (kept : Option Cause) (qs : List (QueuedInput T)) (cs : List ℕ) (vs : List (Stream T)) (v : Stream T) →
    output_then out (Some (all_values (length (values_left qs vs)) kept (values_left qs vs))) (Some (ended_by Done)) ≡ Some v →
    (hubs : List (Stream T)) (further : Note) → ⊤ → note_then (Picks cs) further ≡ Picks cs → delayed_of out kept qs (incoming_of hubs vs) further ≡ Some v
rest_out out kept qs cs vs v gives hubs further behind none =
    ap (λ left. delayed_behind out kept left further) (padded qs hubs vs) ∙ rw (none_more cs further none) (ap (λ o. output_then out o (Some (ended_by Done))) (rest_taken 0 kept qs vs) ∙ gives)
