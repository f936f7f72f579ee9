-- Where an ending stands in the slot.
use Rattle.std.proofs.Common.{◌≡◌, ◌≤◌, Bool, true, false, ◌||◌, List, [], ◌∷◌, length, Some, None, refl, arith}
use Rattle.std.specs.Prelude.{slice_get}
use Rattle.rsx_sources.specs.Prelude.{Signal, ends_input, has_ending}

-- ---- at most two signals, one by one

pub ended_none : {T : Type 0} (slot : List (Signal T)) → None ≡ slice_get slot 0 → false ≡ has_ending slot
ended_none [] e = refl
ended_none (a ∷ ss) e = cc

pub ended_first : {T : Type 0} (slot : List (Signal T)) (s : Signal T) → Some s ≡ slice_get slot 0 → ends_input s ≡ true → true ≡ has_ending slot
ended_first [] s g e = cc
ended_first (a ∷ ss) s g e = let t : ends_input a ≡ true = cc in rw t refl

pub ended_one : {T : Type 0} (slot : List (Signal T)) (s : Signal T) → Some s ≡ slice_get slot 0 → ends_input s ≡ false → None ≡ slice_get slot 1 → false ≡ has_ending slot
ended_one [] s g e n = cc
ended_one (a ∷ []) s g e n = let t : ends_input a ≡ false = cc in rw t refl
ended_one (a ∷ b ∷ ss) s g e n = cc

pub ended_second : {T : Type 0} (slot : List (Signal T)) (s t : Signal T) (ends : Bool) → length slot ≤ 2 → Some s ≡ slice_get slot 0 → ends_input s ≡ false → Some t ≡ slice_get slot 1 → ends_input t ≡ ends → ends ≡ has_ending slot
ended_second [] s t ends l g e h f = cc
ended_second (a ∷ []) s t ends l g e h f = cc
ended_second (a ∷ b ∷ []) s t ends l g e h f =
    let first : ends_input a ≡ false = cc in
    let second : ends_input b ≡ ends = cc in
    rw (first, second) (alone ends)
  where
    alone : (x : Bool) → x ≡ x || false
    alone true = refl
    alone false = refl
ended_second (a ∷ b ∷ c ∷ ss) s t ends l g e h f = absurd (omega (arith, l))
