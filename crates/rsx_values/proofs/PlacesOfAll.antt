-- The pick in which choices may follow a failure, choice by choice.
use Rattle.std.proofs.Common.{◌≡◌, ℕ, ◌+◌, ◌≤◌, List, [], ◌∷◌, ◌++◌, length, drop, Option, Some, None, option_map, refl, ap, sym, ◌∙◌}
use Rattle.std.proofs.lemmas.List.{drop_all}
use Rattle.rsx_types.proofs.Options.{one_in_front}
use Rattle.rsx_types.specs.declared.signal.Signal.{Signal}
use Rattle.rsx_values.specs.Delayed.{pick_all, rest_of_all}
use Rattle.rsx_values.specs.Pick.{InputLeft, Taken, next_of}

step_some : {T : Type 0} (c : ℕ) (cs : List ℕ) (is js : List (InputLeft T)) (s : Signal T) → next_of c is ≡ Some (s, js) → pick_all (c ∷ cs) is ≡ option_map (λ ts. (c, s) ∷ ts) (pick_all cs js)
step_some c cs is js s h = rw h refl

pub choice_kept : {T : Type 0} (choices : List ℕ) (k c : ℕ) (is js : List (InputLeft T)) (s : Signal T) (out : List (Taken T)) (whole : Option (List (Taken T))) → drop k choices ≡ c ∷ drop (k + 1) choices → next_of c is ≡ Some (s, js) → option_map (λ ts. out ++ ts) (pick_all (drop k choices) is) ≡ whole →
    option_map (λ ts. (out ++ (c, s) ∷ []) ++ ts) (pick_all (drop (k + 1) choices) js) ≡ whole
choice_kept choices k c is js s out whole d h i = one_in_front out (c, s) _ ∙ ap (option_map (λ ts. out ++ ts)) (sym (step_some c (drop (k + 1) choices) is js s h)) ∙ (rw d at i)

pub choice_missing : {T : Type 0} (choices : List ℕ) (k c : ℕ) (is : List (InputLeft T)) (out : List (Taken T)) (whole : Option (List (Taken T))) → drop k choices ≡ c ∷ drop (k + 1) choices → next_of c is ≡ None → option_map (λ ts. out ++ ts) (pick_all (drop k choices) is) ≡ whole → whole ≡ None
choice_missing choices k c is out whole d h i = sym i ∙ rw (d, h) refl

pub all_chosen : {T : Type 0} (choices : List ℕ) (k : ℕ) (is : List (InputLeft T)) (out : List (Taken T)) (whole : Option (List (Taken T))) → length choices ≤ k → option_map (λ ts. out ++ ts) (pick_all (drop k choices) is) ≡ whole → whole ≡ Some (out ++ rest_of_all is)
all_chosen choices k is out whole le i = sym i ∙ rw (drop_all k choices le) refl
