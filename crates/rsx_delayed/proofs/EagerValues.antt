-- The values that come out of the identity whose failure may overtake items.
use Rattle.std.proofs.Common.{◌≡◌, ℕ, zero, suc, ◌≤◌, false, List, [], ◌∷◌, ◌++◌, length, take, Option, Some, None, option_map, refl, ap, sym, ◌∙◌, arith}
use Rattle.rsx_types.specs.Stream.{Stream, item_then}
use Rattle.rsx_types.specs.declared.signal.Cause.{Cause}
use Rattle.rsx_types.specs.declared.signal.Ending.{Ending}
use Rattle.rsx_types.specs.declared.signal.Ending.TheVariants.{Open, Done, Failed}
use Rattle.rsx_values.specs.Delayed.{fails}
use Rattle.rsx_values.specs.Eager.{eager, failure_here}
use Rattle.rsx_values.specs.Record.{times}

-- where the value doesn't fail, no failure can be chosen
no_failure : {T : Type 0} (cs : List ℕ) (e : Ending) (out : Stream T) → fails e ≡ false → failure_here e cs ≡ Some out → ⊥
no_failure cs Open out f h = cc
no_failure cs Done out f h = cc
no_failure cs (Failed c) out f h = cc

pub unfailing : {T : Type 0} (cs : List ℕ) (xs : List T) (e : Ending) (out : Stream T) → fails e ≡ false → eager cs xs e ≡ Some out → out ≡ record { items = xs; ending = e }
unfailing [] xs e out f h = cc
unfailing (zero ∷ cs) [] e out f h = cc
unfailing {T} (zero ∷ cs) (x ∷ xs) e out f h = by_rest (eager cs xs e) (λ v is. unfailing cs xs e v f is) refl h
  where
    by_rest : (o : Option (Stream T)) → ((v : Stream T) → eager cs xs e ≡ Some v → v ≡ record { items = xs; ending = e }) → eager cs xs e ≡ o → option_map (item_then x) o ≡ Some out → out ≡ record { items = x ∷ xs; ending = e }
    by_rest None rest is h = cc
    by_rest (Some v) rest is h =
        let came : item_then x v ≡ out = cc in
        sym came ∙ ap (item_then x) (rest v is)
unfailing (suc zero ∷ cs) xs e out f h = absurd (no_failure cs e out f h)
unfailing (suc (suc n) ∷ cs) xs e out f h = cc

pub overtaken : {T : Type 0} (n : ℕ) (xs : List T) (c : Cause) → n ≤ length xs → eager (times n 0 ++ 1 ∷ []) xs (Failed c) ≡ Some (record { items = take n xs; ending = Failed c })
overtaken zero [] c le = refl
overtaken zero (x ∷ xs) c le = refl
overtaken (suc n) [] c le = absurd (omega (arith, le))
overtaken (suc n) (x ∷ xs) c le = ap (option_map (item_then x)) (overtaken n xs c (omega (arith, le)))
