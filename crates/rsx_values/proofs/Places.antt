-- The pick by places.
use Rattle.std.proofs.Common.{◌≡◌, ℕ, zero, suc, ◌+◌, ◌<◌, ◌≤◌, Bool, true, false, nat_eq, if◌then◌else◌, List, [], ◌∷◌, ◌++◌, length, take, drop, slice_index_or, Option, Some, None, option_map, refl, ap, sym, ◌∙◌, arith, add-one}
use Rattle.std.proofs.lemmas.List.{append-nil, drop_all}
use Rattle.rsx_types.proofs.Options.{one_in_front}
use Rattle.rsx_types.specs.declared.signal.Signal.{Signal}
use Rattle.rsx_types.specs.declared.signal.Signal.TheVariants.{Next, Complete, Error}
use Rattle.rsx_values.specs.Pick.{InputLeft, Taken, rest_of, pick, no_more, is_failure, next_of, next_here}
use Rattle.rsx_values.specs.Steps.{left_at, TakesAt, TakesNext}

-- no input has the number c
abbrev pub NotAmong : {T : Type 0} → ℕ → List (InputLeft T) → Type 0
NotAmong c [] = Unit {0}
NotAmong c (i ∷ is) = (nat_eq c i.0 ≡ false) × NotAmong c is

-- the rest of a pick, after a failure or not
abbrev pub pick_on : {T : Type 0} → Bool → List ℕ → List (InputLeft T) → Option (List (Taken T))
pick_on true cs is = no_more cs
pick_on false cs is = pick cs is

-- input i's own answer at place k
abbrev pub given_at : {T : Type 0} → List (InputLeft T) → ℕ → ℕ → List (Signal T) → Option (Signal T × List (InputLeft T))
given_at is k n [] = None
given_at is k n (s ∷ ss) = Some (s, left_at is k n s ss)

given_more : {T : Type 0} (j : InputLeft T) (is : List (InputLeft T)) (k n : ℕ) (ss : List (Signal T)) → option_map (λ p. (p.0, j ∷ p.1)) (given_at is k n ss) ≡ given_at (j ∷ is) (suc k) n ss
given_more j is k n [] = refl
given_more j is k n (Next x ∷ ss) = refl
given_more j is k n (Complete ∷ ss) = refl
given_more j is k n (Error c ∷ ss) = refl

given_here : {T : Type 0} (is : List (InputLeft T)) (i : InputLeft T) (n : ℕ) (ss : List (Signal T)) → next_here n ss is ≡ given_at (i ∷ is) zero n ss
given_here is i n [] = refl
given_here is i n (Next x ∷ ss) = refl
given_here is i n (Complete ∷ ss) = refl
given_here is i n (Error c ∷ ss) = refl

-- the first input of that number is asked
pub next_at : {T : Type 0} (c : ℕ) (is : List (InputLeft T)) (k : ℕ) (i : InputLeft T) → k < length is → slice_index_or is k i ≡ i → NotAmong c (take k is) → nat_eq c i.0 ≡ true → next_of c is ≡ given_at is k i.0 i.1
next_at c [] k i lt e n t = absurd (omega arith)
next_at c (j ∷ is) zero i lt e n t = rw (e, t) (given_here is i i.0 i.1)
next_at c (j ∷ is) (suc k) i lt e n t = rw n.0 (ap (option_map (λ p. (p.0, j ∷ p.1))) (next_at c is k i (omega arith) e n.1 t) ∙ given_more j is k i.0 i.1)

pub takes_next : {T : Type 0} (c : ℕ) (is : List (InputLeft T)) (k : ℕ) (i : InputLeft T) (o : Option (Signal T)) (new : List (InputLeft T)) → k < length is → slice_index_or is k i ≡ i → NotAmong c (take k is) → nat_eq c i.0 ≡ true → TakesAt is k i o new → TakesNext c is o new
takes_next c is k i None new lt e n t h = next_at c is k i lt e n t ∙ ap (given_at is k i.0) h
takes_next c is k i (Some s) new lt e n t h = next_at c is k i lt e n t ∙ ap (given_at is k i.0) h.1 ∙ ap (λ js. Some (s, js)) (sym h.2)

pub not_among_more : {T : Type 0} (c : ℕ) (is : List (InputLeft T)) (k : ℕ) (i : InputLeft T) → k < length is → slice_index_or is k i ≡ i → nat_eq c i.0 ≡ false → NotAmong c (take k is) → NotAmong c (take (k + 1) is)
not_among_more c [] k i lt e f n = absurd (omega arith)
not_among_more c (j ∷ is) zero i lt e f n = (rw e f, tt)
not_among_more c (j ∷ is) (suc k) i lt e f n = rw add-one (n.0, rw add-one at (not_among_more c is k i (omega arith) e f n.1))

pub not_among : {T : Type 0} (c : ℕ) (is : List (InputLeft T)) (k : ℕ) → length is ≤ k → NotAmong c (take k is) → next_of c is ≡ None
not_among c [] k le n = refl
not_among c (j ∷ is) zero le n = absurd (omega arith)
not_among c (j ∷ is) (suc k) le n = rw n.0 (ap (option_map (λ p. (p.0, j ∷ p.1))) (not_among c is k (omega arith) n.1))

-- one choice more
pick_on_if : {T : Type 0} (b : Bool) (cs : List ℕ) (is : List (InputLeft T)) → (if b then no_more cs else pick cs is) ≡ pick_on b cs is
pick_on_if true cs is = refl
pick_on_if false cs is = refl

step_some : {T : Type 0} (c : ℕ) (cs : List ℕ) (is js : List (InputLeft T)) (s : Signal T) → next_of c is ≡ Some (s, js) → pick_on false (c ∷ cs) is ≡ option_map (λ ts. (c, s) ∷ ts) (pick_on (is_failure s) cs js)
step_some c cs is js s h = rw h (ap (option_map (λ ts. (c, s) ∷ ts)) (pick_on_if (is_failure s) cs js))

pub choice_kept : {T : Type 0} (choices : List ℕ) (k c : ℕ) (is js : List (InputLeft T)) (s : Signal T) (out : List (Taken T)) (whole : Option (List (Taken T))) → drop k choices ≡ c ∷ drop (k + 1) choices → next_of c is ≡ Some (s, js) → option_map (λ ts. out ++ ts) (pick_on false (drop k choices) is) ≡ whole → option_map (λ ts. (out ++ (c, s) ∷ []) ++ ts) (pick_on (is_failure s) (drop (k + 1) choices) js) ≡ whole
choice_kept choices k c is js s out whole d h i = one_in_front out (c, s) _ ∙ ap (option_map (λ ts. out ++ ts)) (sym (step_some c (drop (k + 1) choices) is js s h)) ∙ (rw d at i)

pub choice_missing : {T : Type 0} (choices : List ℕ) (k c : ℕ) (is : List (InputLeft T)) (out : List (Taken T)) (whole : Option (List (Taken T))) → drop k choices ≡ c ∷ drop (k + 1) choices → next_of c is ≡ None → option_map (λ ts. out ++ ts) (pick_on false (drop k choices) is) ≡ whole → whole ≡ None
choice_missing choices k c is out whole d h i = sym i ∙ rw (d, h) refl

pub choice_late : {T : Type 0} (choices : List ℕ) (k c : ℕ) (is : List (InputLeft T)) (out : List (Taken T)) (whole : Option (List (Taken T))) → drop k choices ≡ c ∷ drop (k + 1) choices → option_map (λ ts. out ++ ts) (pick_on true (drop k choices) is) ≡ whole → whole ≡ None
choice_late choices k c is out whole d i = sym i ∙ rw d refl

pub all_chosen : {T : Type 0} (choices : List ℕ) (k : ℕ) (is : List (InputLeft T)) (out : List (Taken T)) (whole : Option (List (Taken T))) → length choices ≤ k → option_map (λ ts. out ++ ts) (pick_on false (drop k choices) is) ≡ whole → whole ≡ Some (out ++ rest_of is)
all_chosen choices k is out whole le i = sym i ∙ rw (drop_all k choices le) refl

pub failed_chosen : {T : Type 0} (choices : List ℕ) (k : ℕ) (is : List (InputLeft T)) (out : List (Taken T)) (whole : Option (List (Taken T))) → length choices ≤ k → option_map (λ ts. out ++ ts) (pick_on true (drop k choices) is) ≡ whole → whole ≡ Some out
failed_chosen choices k is out whole le i = sym i ∙ rw (drop_all k choices le) (ap (λ l. Some l) (append-nil out))
