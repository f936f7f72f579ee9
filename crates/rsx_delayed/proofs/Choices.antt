-- One choice of a merge that delays failures, and such a merge of values of which none fails.
use Rattle.std.proofs.Common.{◌≡◌, ℕ, suc, ◌-◌, Bool, true, false, nat_eq, if◌then◌else◌, List, [], ◌∷◌, ◌++◌, map, length, Option, Some, None, option_map, refl, ap, sym, ◌∙◌, arith}
use Rattle.std.specs.Prelude.{⊤}
use Rattle.rsx_types.specs.declared.signal.Cause.{Cause}
use Rattle.rsx_types.specs.declared.signal.Ending.{Ending}
use Rattle.rsx_types.specs.declared.signal.Ending.TheVariants.{Open, Done, Failed}
use Rattle.rsx_types.specs.declared.signal.Signal.{Signal}
use Rattle.rsx_types.specs.declared.signal.Signal.TheVariants.{Next, Complete, Error}
use Rattle.rsx_types.specs.Stream.{Stream, item_then, ending_signals}
use Rattle.rsx_values.specs.Pick.{InputLeft, Taken, is_failure, next_here, next_of, numbered, rest_of, up_to_failure}
use Rattle.rsx_types.specs.declared.stage.Stage.{Stage}
use Rattle.rsx_types.specs.Meaning.{Meaning}
use Rattle.rsx_values.specs.Flat.{expanded_items, flat_lane, flat_map}
use Rattle.rsx_values.specs.Lanes.{lanes_and_main, main_input}
use Rattle.rsx_values.specs.Merge.{merge, merge_inputs, merged}
use Rattle.rsx_values.proofs.OneChoice.{merge_step, next_length}
use Rattle.rsx_values.specs.Flat.{flat_map_delay}
use Rattle.rsx_values.specs.Delayed.{NoneFails, all_of, fails, first_cause, merge_delay, merge_delayed_inputs, merged_delayed, pick_all, rest_of_all, taken_first}

-- ---- one choice

item_step : {T : Type 0} (c : ℕ) (x : T) (n k : ℕ) (kept : Option Cause) (o : Option (List (Taken T))) → n ≡ k →
    option_map (merged_delayed n kept) (option_map (λ ts. (c, Next x) ∷ ts) o) ≡ option_map (item_then x) (option_map (merged_delayed k kept) o)
item_step c x n k kept None e = refl
item_step c x n k kept (Some ts) e = rw e refl

completion_step : {T : Type 0} (c n k : ℕ) (kept : Option Cause) (o : Option (List (Taken T))) → n ≡ suc k →
    option_map (merged_delayed n kept) (option_map (λ ts. (c, Complete) ∷ ts) o) ≡ option_map (merged_delayed k kept) o
completion_step c n k kept None e = refl
completion_step c n k kept (Some ts) e = let one : n - 1 ≡ k = omega arith in rw one refl

failure_step : {T : Type 0} (c n k : ℕ) (f : Cause) (kept : Option Cause) (o : Option (List (Taken T))) → n ≡ suc k →
    option_map (merged_delayed n kept) (option_map (λ ts. (c, Error f) ∷ ts) o) ≡ option_map (merged_delayed k (first_cause kept f)) o
failure_step c n k f kept None e = refl
failure_step c n k f kept (Some ts) e = let one : n - 1 ≡ k = omega arith in rw one refl

pub delayed_step : {T : Type 0} (c : ℕ) (cs : List ℕ) (is js : List (InputLeft T)) (s : Signal T) (kept : Option Cause) → next_of c is ≡ Some (s, js) →
    merge_delayed_inputs kept (c ∷ cs) is ≡ taken_first s kept cs js
delayed_step c cs is js (Next x) kept h = rw h (item_step c x (length is) (length js) kept (pick_all cs js) (next_length c is js (Next x) h))
delayed_step c cs is js Complete kept h = rw h (completion_step c (length is) (length js) kept (pick_all cs js) (next_length c is js Complete h))
delayed_step c cs is js (Error f) kept h = rw h (failure_step c (length is) (length js) f kept (pick_all cs js) (next_length c is js (Error f) h))

-- ---- no failure

-- none of these signals is a failure
abbrev AreSound : {T : Type 0} → List (Signal T) → Type 0
AreSound [] = ⊤
AreSound (s ∷ ss) = (is_failure s ≡ false) × AreSound ss

-- nor any signal of these inputs
abbrev NoneFailing : {T : Type 0} → List (InputLeft T) → Type 0
NoneFailing [] = ⊤
NoneFailing (i ∷ is) = AreSound i.1 × NoneFailing is

sound_signals : {T : Type 0} (xs : List T) (e : Ending) → fails e ≡ false → AreSound (map Next xs ++ ending_signals e)
sound_signals [] Open h = tt
sound_signals [] Done h = (refl, tt)
sound_signals [] (Failed c) h = cc
sound_signals (x ∷ xs) e h = (refl, sound_signals xs e h)

sound_inputs : {T : Type 0} (n : ℕ) (vs : List (Stream T)) → NoneFails vs → NoneFailing (numbered n vs)
sound_inputs n [] h = tt
sound_inputs n (v ∷ vs) h = (sound_signals v.items v.ending h.0, sound_inputs (suc n) vs h.1)

-- what a choice takes is none, and what it leaves has none
abbrev IsSound : {T : Type 0} → Option (Signal T × List (InputLeft T)) → Type 0
IsSound None = ⊤
IsSound (Some p) = (is_failure p.0 ≡ false) × NoneFailing p.1

sound_here : {T : Type 0} (n : ℕ) (ss : List (Signal T)) (is : List (InputLeft T)) → AreSound ss → NoneFailing is → IsSound (next_here n ss is)
sound_here n [] is h k = tt
sound_here n (Next x ∷ ss) is h k = (refl, (h.1, k))
sound_here n (Complete ∷ ss) is h k = (refl, k)
sound_here n (Error c ∷ ss) is h k = cc h.0

sound_beside : {T : Type 0} (i : InputLeft T) (o : Option (Signal T × List (InputLeft T))) → AreSound i.1 → IsSound o → IsSound (option_map (λ p. (p.0, i ∷ p.1)) o)
sound_beside i None h k = tt
sound_beside i (Some p) h k = (k.0, (h, k.1))

sound_next : {T : Type 0} (c : ℕ) (is : List (InputLeft T)) → NoneFailing is → IsSound (next_of c is)
sound_next c [] h = tt
sound_next {T} c (i ∷ is) h = by_test (nat_eq c i.0) (sound_next c is h.1)
  where
    by_test : (b : Bool) → IsSound (next_of c is) → IsSound (if b then next_here i.0 i.1 is else option_map (λ p. (p.0, i ∷ p.1)) (next_of c is))
    by_test true k = sound_here i.0 i.1 is h.0 h.1
    by_test false k = sound_beside i (next_of c is) h.0 k

all_sound : {T : Type 0} (n left : ℕ) (ss : List (Signal T)) (rest up_to : List (Taken T)) → AreSound ss → ((k : ℕ) → merged_delayed k None rest ≡ merged k up_to) →
    merged_delayed left None (all_of n ss rest) ≡ merged left (up_to_failure n ss up_to)
all_sound n left [] rest up_to h k = k left
all_sound n left (Next x ∷ ss) rest up_to h k = ap (item_then x) (all_sound n left ss rest up_to h.1 k)
all_sound n left (Complete ∷ ss) rest up_to h k = all_sound n (left - 1) ss rest up_to h.1 k
all_sound n left (Error c ∷ ss) rest up_to h k = cc h.0

rest_sound : {T : Type 0} (left : ℕ) (is : List (InputLeft T)) → NoneFailing is → merged_delayed left None (rest_of_all is) ≡ merged left (rest_of is)
rest_sound left [] h = refl
rest_sound left (i ∷ is) h = all_sound i.0 left i.1 (rest_of_all is) (rest_of is) h.0 (λ k. rest_sound k is h.1)

inputs_same : {T : Type 0} (cs : List ℕ) (is : List (InputLeft T)) → NoneFailing is → merge_delayed_inputs None cs is ≡ merge_inputs cs is
inputs_same [] is h = ap Some (rest_sound (length is) is h)
inputs_same {T} (c ∷ cs) is h = by_next (next_of c is) refl (sound_next c is h) (λ js k. inputs_same cs js k)
  where
    by_next : (o : Option (Signal T × List (InputLeft T))) → next_of c is ≡ o → IsSound o → ((js : List (InputLeft T)) → NoneFailing js → merge_delayed_inputs None cs js ≡ merge_inputs cs js) →
        merge_delayed_inputs None (c ∷ cs) is ≡ merge_inputs (c ∷ cs) is
    by_next None e k same = rw e refl
    by_next (Some (Next x, js)) e k same = delayed_step c cs is js (Next x) None e ∙ ap (option_map (item_then x)) (same js k.1) ∙ sym (merge_step c cs is js (Next x) e)
    by_next (Some (Complete, js)) e k same = delayed_step c cs is js Complete None e ∙ same js k.1 ∙ sym (merge_step c cs is js Complete e)
    by_next (Some (Error f, js)) e k same = cc k.0

pub same_as_merge : {T : Type 0} (cs : List ℕ) (vs : List (Stream T)) → NoneFails vs → merge_delay cs vs ≡ merge cs vs
same_as_merge cs vs h = inputs_same cs (numbered 0 vs) (sound_inputs 0 vs h)

-- ---- lanes of which none fails

sound_behind : {T : Type 0} (is js : List (InputLeft T)) → NoneFailing is → NoneFailing js → NoneFailing (is ++ js)
sound_behind [] js h k = k
sound_behind (i ∷ is) js h k = (h.0, sound_behind is js h.1 k)

pub same_as_flat_map : {T : Type 0} (m : Meaning T) (f : ℕ) (gs : List (Stage T)) (cs : List ℕ) (v : Stream T) →
    let lists = expanded_items (m.expanded f) v.items v.ending in
    NoneFails (map (flat_lane m gs) lists.items) → fails lists.ending ≡ false → flat_map_delay m f gs cs v ≡ flat_map m f gs cs v
same_as_flat_map m f gs cs v lanes main =
    let lists = expanded_items (m.expanded f) v.items v.ending in
    let vs = map (flat_lane m gs) lists.items in
    inputs_same cs (lanes_and_main vs lists.ending) (sound_behind (numbered 0 vs) (main_input lists.ending) (sound_inputs 0 vs lanes) (sound_signals [] lists.ending main, tt))
