-- Each step of a parker keeps its rule.
use Rattle.std.proofs.Common.{◌≡◌, ℕ, zero, suc, ◌+◌, true, false, List, [], ◌∷◌, ◌++◌, slice_set, refl, ap, arith}
use mathlib.Core.Option.{some}
use lib.ListN.{get_elem?}
use Rattle.crossbeam_utils.specs.Register.{Admits, Turns, TurnsAt}
use Rattle.rsx_runtime.specs.Tokens.{AreTaken, Unparks, Takes, tokens, total}
use Rattle.rsx_runtime.specs.declared.tokens.Tokens.{Tokens}

total_new : (f : Tokens → ℕ) (vs : List Tokens) (w : Tokens) → total f (vs ++ w ∷ []) ≡ total f vs + f w
total_new f [] w = omega arith
total_new f (v ∷ vs) w = let rest = total_new f vs w in omega (arith, rest)

total_set : (f : Tokens → ℕ) (vs : List Tokens) (at : ℕ) (v w : Tokens) → get_elem? vs at ≡ some v → total f (slice_set vs at w) + f v ≡ total f vs + f w
total_set f [] at v w there = cc
total_set f (x ∷ vs) zero v w there = let same : x ≡ v = cc in let k : f x ≡ f v = ap f same in omega (arith, k)
total_set f (x ∷ vs) (suc at) v w there = let rest = total_set f vs at v w there in omega (arith, rest)

pub admits : Admits AreTaken (tokens 0 0 0)
admits token views h = let g = total_new (λ v. v.given) views (tokens 0 0 0) in let t = total_new (λ v. v.taken) views (tokens 0 0 0) in omega (arith, g, t, h)

pub unparks : (id : ℕ) (v : Tokens) → Turns AreTaken id v (λ _. true) Unparks
unparks id v true views h at =
    let w = tokens (v.unparks + 1) v.given v.taken in
    let g = total_set (λ u. u.given) views id v w at in
    let t = total_set (λ u. u.taken) views id v w at in (w, omega (arith, g, t, h), refl)
unparks id v false views h at =
    let w = tokens (v.unparks + 1) (v.given + 1) v.taken in
    let g = total_set (λ u. u.given) views id v w at in
    let t = total_set (λ u. u.taken) views id v w at in (w, omega (arith, g, t, h), refl)

pub takes : (id : ℕ) (v : Tokens) → TurnsAt AreTaken id v true false Takes
takes id v views h at =
    let w = tokens v.unparks v.given (v.taken + 1) in
    let g = total_set (λ u. u.given) views id v w at in
    let t = total_set (λ u. u.taken) views id v w at in (w, omega (arith, g, t, h), (refl, refl, refl))
