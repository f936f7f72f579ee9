-- One choice of the rows of latest items, with nothing chosen behind their stop.
use Rattle.std.proofs.Common.{◌≡◌, ℕ, suc, ◌-◌, true, false, if◌then◌else◌, List, [], ◌∷◌, length, slice_set, Option, Some, None, option_map, refl, ap, sym, ◌∙◌, arith}
use Rattle.std.specs.Prelude.{option_and_then}
use Rattle.rsx_types.specs.declared.signal.Cause.{Cause}
use Rattle.rsx_types.specs.declared.signal.Ending.TheVariants.{Failed}
use Rattle.rsx_types.specs.declared.signal.Signal.TheVariants.{Next, Complete, Error}
use Rattle.rsx_types.specs.Stream.{Stream, ended_by}
use Rattle.rsx_values.specs.Pick.{InputLeft, Taken, next_of, chosen_before, no_more, pick}
use Rattle.rsx_values.proofs.OneChoice.{next_length}
use Rattle.rsx_values.specs.Latest.{all_latest, stops}
use Rattle.rsx_values.specs.UntilStop.{row_before, unless_chosen, walk_until_stop, combine_until_stop}

-- a row in front of nothing is nothing
row_of_none : {T : Type 0} (row : List T → T) (o : Option (List T)) → row_before row o None ≡ None
row_of_none row None = refl
row_of_none row (Some xs) = refl

-- an item that is chosen first: its row, if there is one, and then what is chosen behind it
pub item_first : {T : Type 0} (row : List T → T) (latest : List (Option T)) (c : ℕ) (cs : List ℕ) (is js : List (InputLeft T)) (x : T) → next_of c is ≡ Some (Next x, js) →
    combine_until_stop row latest (c ∷ cs) is ≡ row_before row (all_latest (slice_set latest c (Some x))) (combine_until_stop row (slice_set latest c (Some x)) cs js)
item_first {T} row latest c cs is js x h =
    ap (λ o. option_and_then (walk_until_stop row latest (length is) (c ∷ cs)) (chosen_before c cs o (λ ks. pick cs ks))) h ∙ of (pick cs js) (next_length c is js (Next x) h)
  where
    of : (o : Option (List (Taken T))) → length is ≡ length js →
        option_and_then (walk_until_stop row latest (length is) (c ∷ cs)) (option_map (λ ts. (c, Next x) ∷ ts) o)
        ≡ row_before row (all_latest (slice_set latest c (Some x))) (option_and_then (walk_until_stop row (slice_set latest c (Some x)) (length js) cs) o)
    of None e = sym (row_of_none row (all_latest (slice_set latest c (Some x))))
    of (Some ts) e = ap (λ n. row_before row (all_latest (slice_set latest c (Some x))) (walk_until_stop row (slice_set latest c (Some x)) n cs ts)) e

-- where nothing was chosen behind a signal, something is picked
unless_none : {T : Type 0} (cs : List ℕ) (js : List (InputLeft T)) → pick cs js ≡ None → unless_chosen {T = T} cs ≡ None
unless_none [] js e = cc
unless_none (c ∷ cs) js e = refl

-- a completion that is chosen first, and ends the rows
pub last_completion : {T : Type 0} (row : List T → T) (latest : List (Option T)) (c : ℕ) (cs : List ℕ) (is js : List (InputLeft T)) → next_of c is ≡ Some (Complete, js) → stops latest c (length is) ≡ true →
    combine_until_stop row latest (c ∷ cs) is ≡ unless_chosen cs
last_completion {T} row latest c cs is js h s =
    ap (λ o. option_and_then (walk_until_stop row latest (length is) (c ∷ cs)) (chosen_before c cs o (λ ks. pick cs ks))) h ∙ of (pick cs js) refl
  where
    of : (o : Option (List (Taken T))) → pick cs js ≡ o → option_and_then (walk_until_stop row latest (length is) (c ∷ cs)) (option_map (λ ts. (c, Complete) ∷ ts) o) ≡ unless_chosen cs
    of None e = sym (unless_none cs js e)
    of (Some ts) e = ap (λ b. if b then unless_chosen cs else walk_until_stop row latest (length is - 1) cs ts) s

one_off : (m : ℕ) → suc m - 1 ≡ m
one_off m = omega arith

-- another completion that is chosen first
pub completion_first : {T : Type 0} (row : List T → T) (latest : List (Option T)) (c : ℕ) (cs : List ℕ) (is js : List (InputLeft T)) → next_of c is ≡ Some (Complete, js) → stops latest c (length is) ≡ false →
    combine_until_stop row latest (c ∷ cs) is ≡ combine_until_stop row latest cs js
completion_first {T} row latest c cs is js h s =
    ap (λ o. option_and_then (walk_until_stop row latest (length is) (c ∷ cs)) (chosen_before c cs o (λ ks. pick cs ks))) h ∙ of (pick cs js) (next_length c is js Complete h)
  where
    of : (o : Option (List (Taken T))) → length is ≡ suc (length js) → option_and_then (walk_until_stop row latest (length is) (c ∷ cs)) (option_map (λ ts. (c, Complete) ∷ ts) o) ≡ option_and_then (walk_until_stop row latest (length js) cs) o
    of None e = refl
    of (Some ts) e = ap (λ b. if b then unless_chosen cs else walk_until_stop row latest (length is - 1) cs ts) s ∙ ap (λ n. walk_until_stop row latest n cs ts) (ap (λ n. n - 1) e ∙ one_off (length js))

-- nothing may be chosen behind a failure
abbrev pub unless_more : {T : Type 0} → Cause → List ℕ → Option (Stream T)
unless_more f [] = Some (ended_by (Failed f))
unless_more f (c ∷ cs) = None

pub failure_first : {T : Type 0} (row : List T → T) (latest : List (Option T)) (c : ℕ) (cs : List ℕ) (is js : List (InputLeft T)) (f : Cause) → next_of c is ≡ Some (Error f, js) →
    combine_until_stop row latest (c ∷ cs) is ≡ unless_more f cs
failure_first {T} row latest c cs is js f h =
    ap (λ o. option_and_then (walk_until_stop row latest (length is) (c ∷ cs)) (chosen_before c cs o (λ ks. pick cs ks))) h ∙ of cs
  where
    of : (cs : List ℕ) → option_and_then (walk_until_stop row latest (length is) (c ∷ cs)) (option_map (λ ts. (c, Error f) ∷ ts) (no_more cs)) ≡ unless_more f cs
    of [] = refl
    of (d ∷ cs) = refl
