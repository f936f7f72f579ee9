-- A choice among numbered inputs, behind which more of them stand.
use Rattle.std.proofs.Common.{◌≡◌, ℕ, nat_eq, if◌then◌else◌, Bool, true, false, List, [], ◌∷◌, ◌++◌, Option, Some, None, option_map, refl, ap, sym, ◌∙◌, subst}
use Rattle.std.specs.Prelude.{⊤}
use Rattle.rsx_types.specs.declared.signal.Signal.{Signal}
use Rattle.rsx_types.specs.declared.signal.Signal.TheVariants.{Next, Complete, Error}
use Rattle.rsx_values.specs.Pick.{InputLeft, next_here, next_of}

-- what the choice gave, and more inputs behind those that are left
abbrev pub with_more : {T : Type 0} → List (InputLeft T) → Option (Signal T × List (InputLeft T)) → Option (Signal T × List (InputLeft T))
with_more more o = option_map (λ p. (p.0, p.1 ++ more)) o

abbrev IsGiven : {T : Type 0} → Option (Signal T × List (InputLeft T)) → Type 0
IsGiven None = ⊥
IsGiven (Some p) = ⊤

here_more : {T : Type 0} (n : ℕ) (ss : List (Signal T)) (is more : List (InputLeft T)) → IsGiven (next_here n ss is) → next_here n ss (is ++ more) ≡ with_more more (next_here n ss is)
here_more n [] is more h = absurd h
here_more n (Next x ∷ ss) is more h = refl
here_more n (Complete ∷ ss) is more h = refl
here_more n (Error c ∷ ss) is more h = refl

given_of : {T : Type 0} (i : InputLeft T) (o : Option (Signal T × List (InputLeft T))) → IsGiven (option_map (λ p. (p.0, i ∷ p.1)) o) → IsGiven o
given_of i None h = absurd h
given_of i (Some p) h = tt

beside_more : {T : Type 0} (i : InputLeft T) (more : List (InputLeft T)) (o : Option (Signal T × List (InputLeft T))) →
    option_map (λ p. (p.0, i ∷ p.1)) (with_more more o) ≡ with_more more (option_map (λ p. (p.0, i ∷ p.1)) o)
beside_more i more None = refl
beside_more i more (Some p) = refl

next_given : {T : Type 0} (c : ℕ) (is more : List (InputLeft T)) → IsGiven (next_of c is) → next_of c (is ++ more) ≡ with_more more (next_of c is)
next_given c [] more h = absurd h
next_given {T} c (i ∷ is) more h = by_test (nat_eq c i.0) h (next_given c is more)
  where
    by_test : (b : Bool) → IsGiven (if b then next_here i.0 i.1 is else option_map (λ p. (p.0, i ∷ p.1)) (next_of c is)) → (IsGiven (next_of c is) → next_of c (is ++ more) ≡ with_more more (next_of c is)) →
        (if b then next_here i.0 i.1 (is ++ more) else option_map (λ p. (p.0, i ∷ p.1)) (next_of c (is ++ more))) ≡ with_more more (if b then next_here i.0 i.1 is else option_map (λ p. (p.0, i ∷ p.1)) (next_of c is))
    by_test true g r = here_more i.0 i.1 is more g
    by_test false g r = ap (option_map (λ p. (p.0, i ∷ p.1))) (r (given_of i (next_of c is) g)) ∙ beside_more i more (next_of c is)

-- the choice finds its input in front of the others, and those stay
pub next_front : {T : Type 0} (c : ℕ) (is more js : List (InputLeft T)) (s : Signal T) → next_of c is ≡ Some (s, js) → next_of c (is ++ more) ≡ Some (s, js ++ more)
next_front c is more js s h = next_given c is more (subst IsGiven (sym h) tt) ∙ ap (with_more more) h
