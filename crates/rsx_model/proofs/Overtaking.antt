-- The identity whose failure may overtake items, choice by choice.
use Rattle.std.proofs.Common.{◌≡◌, ℕ, zero, suc, ◌+◌, ◌<◌, ◌≤◌, List, [], ◌∷◌, length, take, drop, Option, Some, None, option_map, refl, ap, sym, ◌∙◌, arith}
use Rattle.std.proofs.lemmas.List.{drop_all, take-append-drop}
use Rattle.rsx_types.specs.declared.signal.Ending.{Ending}
use Rattle.rsx_types.specs.Stream.{Stream, item_then, items_then}
use Rattle.rsx_values.specs.Eager.{eager, failure_here}

-- so many items were taken, and these choices are left
abbrev pub eager_on : {T : Type 0} → ℕ → List ℕ → List T → Ending → Option (Stream T)
eager_on k cs xs e = option_map (items_then (take k xs)) (eager cs (drop k xs) e)

in_front : {T : Type 0} (x : T) (xs : List T) (o : Option (Stream T)) → option_map (items_then (x ∷ xs)) o ≡ option_map (item_then x) (option_map (items_then xs) o)
in_front x xs None = refl
in_front x xs (Some v) = refl

none_in_front : {T : Type 0} (x : T) (o : Option (Stream T)) → option_map (items_then []) (option_map (item_then x) o) ≡ option_map (items_then (x ∷ [])) o
none_in_front x None = refl
none_in_front x (Some v) = refl

one_taken : {T : Type 0} (k : ℕ) (cs : List ℕ) (xs : List T) (e : Ending) → k < length xs → eager_on k (zero ∷ cs) xs e ≡ eager_on (suc k) cs xs e
one_taken k cs [] e lt = absurd (omega (arith, lt))
one_taken zero cs (x ∷ xs) e lt = none_in_front x (eager cs xs e)
one_taken (suc k) cs (x ∷ xs) e lt =
    in_front x (take k xs) (eager (zero ∷ cs) (drop k xs) e)
    ∙ ap (option_map (item_then x)) (one_taken k cs xs e (omega (arith, lt)))
    ∙ sym (in_front x (take (suc k) xs) (eager cs (drop (suc k) xs) e))

pub item_taken : {T : Type 0} (cs : List ℕ) (k : ℕ) (xs : List T) (e : Ending) (whole : Option (Stream T)) → drop k cs ≡ zero ∷ drop (k + 1) cs → k < length xs → eager_on k (drop k cs) xs e ≡ whole →
    eager_on (k + 1) (drop (k + 1) cs) xs e ≡ whole
item_taken cs k xs e whole d lt i =
    let more : k + 1 ≡ suc k = omega arith in
    ap (λ n. eager_on n (drop (k + 1) cs) xs e) more ∙ sym (one_taken k (drop (k + 1) cs) xs e lt) ∙ (rw d at i)

pub no_item : {T : Type 0} (cs : List ℕ) (k : ℕ) (xs : List T) (e : Ending) (whole : Option (Stream T)) → drop k cs ≡ zero ∷ drop (k + 1) cs → length xs ≤ k → eager_on k (drop k cs) xs e ≡ whole → None ≡ whole
no_item cs k xs e whole d le i = sym (rw (d, drop_all k xs le) refl) ∙ i

pub failure_taken : {T : Type 0} (cs : List ℕ) (k : ℕ) (xs : List T) (e : Ending) (whole : Option (Stream T)) → drop k cs ≡ 1 ∷ drop (k + 1) cs → eager_on k (drop k cs) xs e ≡ whole →
    option_map (items_then (take k xs)) (failure_here e (drop (k + 1) cs)) ≡ whole
failure_taken cs k xs e whole d i = rw d at i

other_number : {T : Type 0} (n : ℕ) (cs : List ℕ) (xs : List T) (e : Ending) → (n ≡ 0 → ⊥) → (n ≡ 1 → ⊥) → eager (n ∷ cs) xs e ≡ None
other_number zero cs xs e z o = absurd (z refl)
other_number (suc zero) cs xs e z o = absurd (o refl)
other_number (suc (suc n)) cs xs e z o = refl

pub no_other : {T : Type 0} (cs : List ℕ) (k n : ℕ) (xs : List T) (e : Ending) (whole : Option (Stream T)) → drop k cs ≡ n ∷ drop (k + 1) cs → (n ≡ 0 → ⊥) → (n ≡ 1 → ⊥) → eager_on k (drop k cs) xs e ≡ whole → None ≡ whole
no_other cs k n xs e whole d z o i = sym (rw (d, other_number n (drop (k + 1) cs) (drop k xs) e z o) refl) ∙ i

pub all_taken : {T : Type 0} (cs : List ℕ) (k : ℕ) (xs : List T) (e : Ending) (whole : Option (Stream T)) → length cs ≤ k → eager_on k (drop k cs) xs e ≡ whole → Some (record { items = xs; ending = e }) ≡ whole
all_taken cs k xs e whole le i = ap (λ ys. Some (record { items = ys; ending = e })) (sym (take-append-drop k xs)) ∙ (rw (drop_all k cs le) at i)
