-- The pick: signals taken from numbered inputs, first in a chosen order, and then input by input.
use Rattle.std.specs.Prelude.{ℕ, suc, Bool, true, false, nat_eq, if◌then◌else◌, List, [], ◌∷◌, Option, Some, None, option_map}
use Rattle.rsx_types.specs.declared.signal.Signal.{Signal}
use Rattle.rsx_types.specs.declared.signal.Signal.TheVariants.{Next, Complete, Error}
use Rattle.rsx_types.specs.Stream.{Stream, signals}

-- an input's number, and the signals that it has left
abbrev pub InputLeft : Type 0 → Type 0
InputLeft T = ℕ × List (Signal T)

-- a taken signal, with the number of its input
abbrev pub Taken : Type 0 → Type 0
Taken T = ℕ × Signal T

-- values numbered from n on
abbrev pub numbered : {T : Type 0} → ℕ → List (Stream T) → List (InputLeft T)
numbered n [] = []
numbered n (v ∷ vs) = (n, signals v) ∷ numbered (suc n) vs

abbrev pub is_failure : {T : Type 0} → Signal T → Bool
is_failure (Next x) = false
is_failure Complete = false
is_failure (Error c) = true

-- an input whose ending was taken is gone
abbrev pub left_after : {T : Type 0} → ℕ → Signal T → List (Signal T) → List (InputLeft T) → List (InputLeft T)
left_after n (Next x) ss is = (n, ss) ∷ is
left_after n Complete ss is = is
left_after n (Error c) ss is = is

abbrev pub next_here : {T : Type 0} → ℕ → List (Signal T) → List (InputLeft T) → Option (Signal T × List (InputLeft T))
next_here n [] is = None
next_here n (s ∷ ss) is = Some (s, left_after n s ss is)

-- input c's next signal, and the inputs after it
abbrev pub next_of : {T : Type 0} → ℕ → List (InputLeft T) → Option (Signal T × List (InputLeft T))
next_of c [] = None
next_of c (i ∷ is) = if nat_eq c i.0 then next_here i.0 i.1 is else option_map (λ p. (p.0, i ∷ p.1)) (next_of c is)

-- an input's signals up to its failure, and then the others
abbrev pub up_to_failure : {T : Type 0} → ℕ → List (Signal T) → List (Taken T) → List (Taken T)
up_to_failure n [] rest = rest
up_to_failure n (s ∷ ss) rest = (n, s) ∷ (if is_failure s then [] else up_to_failure n ss rest)

-- input by input, up to the first failure
abbrev pub rest_of : {T : Type 0} → List (InputLeft T) → List (Taken T)
rest_of [] = []
rest_of (i ∷ is) = up_to_failure i.0 i.1 (rest_of is)

-- nothing may be chosen after a failure
abbrev pub no_more : {T : Type 0} → List ℕ → Option (List (Taken T))
no_more [] = Some []
no_more (c ∷ cs) = None

-- one choice, and what is taken after it
abbrev pub chosen_before : {T : Type 0} → ℕ → List ℕ → Option (Signal T × List (InputLeft T)) → (List (InputLeft T) → Option (List (Taken T))) → Option (List (Taken T))
chosen_before c cs None rest = None
chosen_before c cs (Some (s, is)) rest = option_map (λ ts. (c, s) ∷ ts) (if is_failure s then no_more cs else rest is)

-- the pick; none where a choice finds no signal, or follows a failure
abbrev pub pick : {T : Type 0} → List ℕ → List (InputLeft T) → Option (List (Taken T))
pick [] is = Some (rest_of is)
pick (c ∷ cs) is = chosen_before c cs (next_of c is) (λ js. pick cs js)
