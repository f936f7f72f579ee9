-- One choice of a merge.
use Rattle.std.proofs.Common.{◌≡◌, ℕ, suc, ◌-◌, Bool, true, false, nat_eq, if◌then◌else◌, List, [], ◌∷◌, length, Option, Some, None, option_map, refl, ap, arith}
use Rattle.rsx_types.specs.declared.signal.Cause.{Cause}
use Rattle.rsx_types.specs.declared.signal.Ending.TheVariants.{Failed}
use Rattle.rsx_types.specs.declared.signal.Signal.{Signal}
use Rattle.rsx_types.specs.declared.signal.Signal.TheVariants.{Next, Complete, Error}
use Rattle.rsx_types.specs.Stream.{ended_by, item_then, signal_then}
use Rattle.rsx_values.specs.Pick.{InputLeft, Taken, next_of, next_here, no_more, pick}
use Rattle.rsx_values.specs.Merge.{merged, merge_inputs, unless_failure, signal_first}

-- how many inputs were there before this signal was taken
abbrev pub length_before : {T : Type 0} → Signal T → ℕ → ℕ
length_before (Next x) n = n
length_before Complete n = suc n
length_before (Error c) n = suc n

abbrev Counted : {T : Type 0} → ℕ → Option (Signal T × List (InputLeft T)) → Type 0
Counted n None = Unit {0}
Counted n (Some p) = n ≡ length_before p.0 (length p.1)

counted_here : {T : Type 0} (k : ℕ) (ss : List (Signal T)) (is : List (InputLeft T)) → Counted (suc (length is)) (next_here k ss is)
counted_here k [] is = tt
counted_here k (Next x ∷ ss) is = refl
counted_here k (Complete ∷ ss) is = refl
counted_here k (Error c ∷ ss) is = refl

counted_more : {T : Type 0} (s : Signal T) (n k : ℕ) → n ≡ length_before s k → suc n ≡ length_before s (suc k)
counted_more (Next x) n k e = ap suc e
counted_more Complete n k e = ap suc e
counted_more (Error c) n k e = ap suc e

counted_map : {T : Type 0} (i : InputLeft T) (n : ℕ) (o : Option (Signal T × List (InputLeft T))) → Counted n o → Counted (suc n) (option_map (λ p. (p.0, i ∷ p.1)) o)
counted_map i n None h = tt
counted_map i n (Some p) h = counted_more p.0 n (length p.1) h

counted_if : {T : Type 0} (b : Bool) (n : ℕ) (o p : Option (Signal T × List (InputLeft T))) → Counted n o → Counted n p → Counted n (if b then o else p)
counted_if true n o p h k = h
counted_if false n o p h k = k

counted : {T : Type 0} (c : ℕ) (is : List (InputLeft T)) → Counted (length is) (next_of c is)
counted c [] = tt
counted c (i ∷ is) = counted_if (nat_eq c i.0) (suc (length is)) (next_here i.0 i.1 is) (option_map (λ p. (p.0, i ∷ p.1)) (next_of c is)) (counted_here i.0 i.1 is) (counted_map i (length is) (next_of c is) (counted c is))

pub next_length : {T : Type 0} (c : ℕ) (is js : List (InputLeft T)) (s : Signal T) → next_of c is ≡ Some (s, js) → length is ≡ length_before s (length js)
next_length c is js s h = rw h at (counted c is)

merged_next : {T : Type 0} (c : ℕ) (x : T) (n k : ℕ) (o : Option (List (Taken T))) → n ≡ k → option_map (merged n) (option_map (λ ts. (c, Next x) ∷ ts) o) ≡ option_map (item_then x) (option_map (merged k) o)
merged_next c x n k None e = refl
merged_next c x n k (Some ts) e = rw e refl

merged_complete : {T : Type 0} (c n k : ℕ) (o : Option (List (Taken T))) → n ≡ suc k → option_map (merged n) (option_map (λ ts. (c, Complete) ∷ ts) o) ≡ option_map (merged k) o
merged_complete c n k None e = refl
merged_complete c n k (Some ts) e = let one : n - 1 ≡ k = omega arith in rw one refl

merged_failed : {T : Type 0} (c n : ℕ) (f : Cause) (cs : List ℕ) → option_map (merged {T = T} n) (option_map (λ ts. (c, Error f) ∷ ts) (no_more cs)) ≡ option_map (λ _. ended_by (Failed f)) (merge_inputs {T = T} cs [])
merged_failed c n f [] = refl
merged_failed c n f (d ∷ cs) = refl

pub merge_step : {T : Type 0} (c : ℕ) (cs : List ℕ) (is js : List (InputLeft T)) (s : Signal T) → next_of c is ≡ Some (s, js) → merge_inputs (c ∷ cs) is ≡ signal_first s (merge_inputs cs (unless_failure s js))
merge_step {T} c cs is js (Next x) h = rw h (merged_next c x (length is) (length js) (pick cs js) (next_length c is js (Next x) h))
merge_step {T} c cs is js Complete h = rw h (merged_complete c (length is) (length js) (pick cs js) (next_length c is js Complete h))
merge_step {T} c cs is js (Error f) h = rw h (merged_failed {T = T} c (length is) f cs)

-- where no input is left a completion in front changes nothing
pub done_stays : {T : Type 0} (cs : List ℕ) → option_map (signal_then {T = T} Complete) (merge_inputs cs []) ≡ merge_inputs cs []
done_stays [] = refl
done_stays (c ∷ cs) = refl
