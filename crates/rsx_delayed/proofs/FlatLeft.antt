-- The merge of lanes that delays failures, lane by lane and choice by choice.
use Rattle.std.proofs.Common.{◌≡◌, ℕ, suc, List, [], ◌∷◌, ◌++◌, map, length, Option, Some, option_map, refl, ap, sym, ◌∙◌, arith}
use Rattle.std.proofs.lemmas.List.{append-nil}
use Rattle.rsx_sources.specs.Prelude.{Cause, Signal, Stream, items_then, signals}
use Rattle.rsx_values.specs.Pick.{InputLeft}
use Rattle.rsx_delayed.proofs.Rests.{value_taken}
use Rattle.rsx_values.specs.Delayed.{merge_delayed_inputs, merged_delayed, rest_of_all}
use Rattle.rsx_delayed.specs.Rest.{all_values, kept_behind, left_behind}

-- ---- nothing is chosen

-- the signals that each has left
abbrev pub signals_left : {T : Type 0} → List (InputLeft T) → List (List (Signal T))
signals_left is = map (λ i. i.1) is

first_or : {A : Type 0} → A → List A → A
first_or d [] = d
first_or d (x ∷ xs) = x

others_of : {A : Type 0} → List A → List A
others_of [] = []
others_of (x ∷ xs) = xs

left_taken : {T : Type 0} (left : ℕ) (kept : Option Cause) (vs : List (Stream T)) (is : List (InputLeft T)) → map signals vs ≡ signals_left is → merged_delayed left kept (rest_of_all is) ≡ all_values left kept vs
unfolding first_or others_of
left_taken left kept [] [] e = refl
left_taken left kept [] (i ∷ is) e = cc
left_taken left kept (v ∷ vs) [] e = cc
left_taken left kept (v ∷ vs) (i ∷ is) e =
    let here : signals v ≡ i.1 = ap (first_or (signals v)) e in
    rw (sym here) (value_taken i.0 left kept v.items v.ending (rest_of_all is)
    ∙ ap (items_then v.items) (left_taken (left_behind left v.ending) (kept_behind kept v.ending) vs is (ap others_of e)))

as_many : {T : Type 0} (vs : List (Stream T)) (is : List (InputLeft T)) → map signals vs ≡ signals_left is → length is ≡ length vs
unfolding others_of
as_many [] [] e = refl
as_many [] (i ∷ is) e = cc
as_many (v ∷ vs) [] e = cc
as_many (v ∷ vs) (i ∷ is) e = ap suc (as_many vs is (ap others_of e))

pub all_left : {T : Type 0} (kept : Option Cause) (vs : List (Stream T)) (is : List (InputLeft T)) → map signals vs ≡ signals_left is → merge_delayed_inputs kept [] is ≡ Some (all_values (length vs) kept vs)
all_left kept vs is e = ap Some (left_taken (length is) kept vs is e ∙ ap (λ n. all_values n kept vs) (as_many vs is e))

-- no lane is left
pub none_more : {T : Type 0} (before : List (List (Signal T))) (rest : List (InputLeft T)) (whole : List (List (Signal T))) → length rest ≡ 0 → before ++ signals_left rest ≡ whole → before ≡ whole
none_more before [] whole e h = sym (append-nil before) ∙ h
none_more before (i ∷ rest) whole e h = absurd (omega arith)

-- ---- choices

-- these items were taken, and then comes this
abbrev pub behind_items : {T : Type 0} → List T → Option (Stream T) → Option (Stream T)
behind_items xs o = option_map (items_then xs) o
