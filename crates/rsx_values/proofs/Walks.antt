-- The slow walk over the taken signals.
use Rattle.std.proofs.Common.{◌≡◌, ℕ, ◌+◌, ◌-◌, ◌<◌, ◌≤◌, true, false, nat_eq, if◌then◌else◌, List, [], ◌∷◌, ◌++◌, length, drop, get_or, slice_set, append_assoc, append-nil, Option, Some, None, option_map, refl, ap, sym, ◌∙◌}
use Rattle.std.proofs.lemmas.List.{at_drop_more, at_drop_all}
use Rattle.rsx_types.proofs.Options.{one_in_front}
use Rattle.rsx_types.specs.declared.signal.Cause.{Cause}
use Rattle.rsx_types.specs.declared.signal.Ending.TheVariants.{Open, Done, Failed}
use Rattle.rsx_types.specs.declared.signal.Signal.TheVariants.{Next, Complete, Error}
use Rattle.rsx_types.specs.Stream.{Stream, ended_by, item_then, items_then}
use Rattle.rsx_values.specs.Pick.{Taken}
use Rattle.rsx_values.specs.Latest.{all_latest, row_first, stops, walk}

-- ---- rows

items_item : {T : Type 0} (xs : List T) (x : T) (v : Stream T) → items_then (xs ++ x ∷ []) v ≡ items_then xs (item_then x v)
items_item {T} xs x v = let at : List T → Stream T = λ l. record { items = l; ending = v.ending } in ap at (append_assoc xs (x ∷ []) v.items)

pub row_pushed : {T : Type 0} (row : List T → T) (o : Option (List T)) (xs rows new : List T) (y : T) → Some xs ≡ o → y ≡ row xs → new ≡ rows ++ y ∷ [] → (v : Stream T) →
    items_then new v ≡ items_then rows (row_first row o v)
row_pushed row o xs rows new y some is more v =
    ap (λ l. items_then l v) more ∙ items_item rows y v ∙ ap (λ z. items_then rows (item_then z v)) is ∙ ap (λ p. items_then rows (row_first row p v)) some

pub no_row : {T : Type 0} (row : List T → T) (o : Option (List T)) (rows : List T) → None ≡ o → (v : Stream T) → items_then rows v ≡ items_then rows (row_first row o v)
no_row row o rows none v = ap (λ p. items_then rows (row_first row p v)) none

-- ---- copies of the latest items

-- these were copied, and those behind them are left
abbrev pub copied_then : {A : Type 0} → List A → List (Option A) → Option (List A)
copied_then xs os = option_map (λ ys. xs ++ ys) (all_latest os)

pub copied : {A : Type 0} (os : List (Option A)) (i : ℕ) (o : Option A) (x : A) (xs new : List A) → i < length os → o ≡ get_or os i o → o ≡ Some x → new ≡ xs ++ x ∷ [] → copied_then new (drop (i + 1) os) ≡ copied_then xs (drop i os)
copied os i o x xs new within is some more =
    ap (λ l. copied_then l (drop (i + 1) os)) more ∙ one_in_front xs x (all_latest (drop (i + 1) os))
    ∙ sym (at_drop_more (copied_then xs) os i o within ∙ ap (λ p. copied_then xs (p ∷ drop (i + 1) os)) (sym is ∙ some))

pub copied_none : {A : Type 0} (os : List (Option A)) (i : ℕ) (o : Option A) (xs : List A) → i < length os → o ≡ get_or os i o → o ≡ None → copied_then xs (drop i os) ≡ None
copied_none os i o xs within is none = at_drop_more (copied_then xs) os i o within ∙ ap (λ p. copied_then xs (p ∷ drop (i + 1) os)) (sym is ∙ none)

pub copied_all : {A : Type 0} (os : List (Option A)) (i : ℕ) (xs : List A) → length os ≤ i → copied_then xs (drop i os) ≡ Some xs
copied_all os i xs le = at_drop_all (copied_then xs) os i le ∙ ap (λ l. Some l) (append-nil xs)

-- ---- one signal

pub walked_end : {T : Type 0} (row : List T → T) (latest : List (Option T)) (left : ℕ) (rows : List T) → items_then rows (walk row latest left []) ≡ record { items = rows; ending = if nat_eq left 0 then Done else Open }
walked_end {T} row latest left rows = let at : List T → Stream T = λ l. record { items = l; ending = if nat_eq left 0 then Done else Open } in ap at (append-nil rows)

pub walked_failure : {T : Type 0} (row : List T → T) (latest : List (Option T)) (left n : ℕ) (c : Cause) (ts : List (Taken T)) (rows : List T) → items_then rows (walk row latest left ((n, Error c) ∷ ts)) ≡ record { items = rows; ending = Failed c }
walked_failure {T} row latest left n c ts rows = let at : List T → Stream T = λ l. record { items = l; ending = Failed c } in ap at (append-nil rows)

pub walked_stop : {T : Type 0} (row : List T → T) (latest : List (Option T)) (left n : ℕ) (ts : List (Taken T)) (rows : List T) → stops latest n left ≡ true → items_then rows (walk row latest left ((n, Complete) ∷ ts)) ≡ record { items = rows; ending = Done }
walked_stop {T} row latest left n ts rows s =
    let at : List T → Stream T = λ l. record { items = l; ending = Done } in
    ap (λ b. items_then rows (if b then ended_by Done else walk row latest (left - 1) ts)) s ∙ ap at (append-nil rows)

pub walked_completion : {T : Type 0} (row : List T → T) (latest : List (Option T)) (left n : ℕ) (ts : List (Taken T)) → stops latest n left ≡ false → walk row latest left ((n, Complete) ∷ ts) ≡ walk row latest (left - 1) ts
walked_completion row latest left n ts s = rw s refl

pub walked_item : {T : Type 0} (row : List T → T) (latest : List (Option T)) (left n : ℕ) (x : T) (ts : List (Taken T)) →
    walk row latest left ((n, Next x) ∷ ts) ≡ row_first row (all_latest (slice_set latest n (Some x))) (walk row (slice_set latest n (Some x)) left ts)
walked_item row latest left n x ts = refl
