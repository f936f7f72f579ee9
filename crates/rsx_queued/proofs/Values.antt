-- The values that come in, one by one.
use Rattle.std.proofs.Common.{◌≡◌, ℕ, zero, suc, ◌+◌, ◌<◌, List, [], ◌∷◌, drop, length, slice_get, slice_index_or, Some, None, refl, sym, ◌∙◌, arith, add-one}
use Rattle.std.proofs.lemmas.Option.{same_Some}
use Rattle.rsx_sources.specs.Prelude.{Open, Signal, Stream, ended_by, Incoming, in_front, in_front_at}
use Rattle.rsx_queued.specs.Values.{tail_of, value_at}

pub front_list : {T : Type 0} (i : ℕ) (s : Signal T) (inc : Incoming T) → (in_front i s inc).first ∷ (in_front i s inc).others ≡ in_front_at i s (inc.first ∷ inc.others)
front_list zero s inc = refl
front_list (suc i) s inc = refl

pub tail_drop : {A : Type 0} (vs : List A) (k : ℕ) → tail_of (drop k vs) ≡ drop (k + 1) vs
tail_drop [] zero = refl
tail_drop [] (suc k) = rw add-one refl
tail_drop (v ∷ vs) zero = refl
tail_drop (v ∷ vs) (suc k) = tail_drop vs k ∙ rw add-one (rw add-one refl)

pub value_there : {T : Type 0} (vs : List (Stream T)) (k : ℕ) (v : Stream T) → Some v ≡ slice_get vs k → value_at vs k ≡ v
value_there [] k v e = cc
value_there (w ∷ vs) zero v e = sym (same_Some v w e)
value_there (w ∷ vs) (suc k) v e = value_there vs k v e

pub value_missing : {T : Type 0} (vs : List (Stream T)) (k : ℕ) → None ≡ slice_get vs k → value_at vs k ≡ ended_by Open
value_missing [] zero e = refl
value_missing [] (suc k) e = refl
value_missing (w ∷ vs) zero e = cc
value_missing (w ∷ vs) (suc k) e = value_missing vs k e

-- the element at a place
pub some_at : {A : Type 0} (xs : List A) (k : ℕ) → k < length xs → (x : A) × (x ≡ slice_index_or xs k x)
some_at [] k lt = absurd (omega arith)
some_at (x ∷ xs) zero lt = (x, refl)
some_at (x ∷ xs) (suc k) lt = some_at xs k (omega arith)
