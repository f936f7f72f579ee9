-- The gates of a live graph, by their places.
use Rattle.std.proofs.Common.{◌≡◌, ℕ, zero, suc, ◌+◌, ◌<◌, ◌≤◌, false, List, [], ◌∷◌, ◌++◌, Some, slice_get, subst, sym, ap, ◌∙◌, arith}
use Rattle.std.specs.Prelude.{Err, Ok, OnOk, Result, is_err}
use Rattle.rsx_link.specs.declared.link.Link.{Link}
use Rattle.rsx_gate.specs.declared.gate.Gate.{Gate}
use Rattle.rsx_gate.specs.Seats.{key_of}
use Rattle.rsx_region.specs.Pieces.{Each}
use Rattle.rsx_region.specs.declared.opening.Opening.{Opening}
use Rattle.rsx_region.specs.declared.region.Region.{Region}
use Rattle.rsx_runtime.specs.Poking.{IsAmong, IsGateOf}

-- what holds of each and of one more holds of each where that one is put behind them
pub each_pushed : {X : Type 0} (P : X → Type 0) (xs : List X) (x : X) → Each P xs → P x → Each P (xs ++ x ∷ [])
each_pushed P [] x all h zero y at = let same : x ≡ y = cc in subst P same h
each_pushed P [] x all h (suc k) y at = cc
each_pushed P (w ∷ xs) x all h zero y at = all 0 y at
each_pushed P (w ∷ xs) x all h (suc k) y at = each_pushed P xs x (λ j z e. all (suc j) z e) h k y at

pub each_same : {X : Type 0} (P : X → Type 0) (xs ys : List X) → ys ≡ xs → Each P xs → Each P ys
each_same {X} P xs ys e all = let E : List X → Type 0 = λ l. Each P l in subst E (sym e) all

pub pushed_onto : {X : Type 0} (old room new : List X) (x : X) → new ≡ room ++ x ∷ [] → room ≡ old → new ≡ old ++ x ∷ []
pushed_onto {X} old room new x e same = e ∙ ap (λ (l : List X). l ++ x ∷ []) same

-- there is room where a growth was not refused
pub room_for : {U E : Type 0} (r : Result U E) (n most : ℕ) → OnOk r (n + 1 ≤ most) → is_err r ≡ false → n < most
room_for (Ok u) n most h e = let k : n + 1 ≤ most = h in omega (arith, k)
room_for (Err x) n most h e = cc

-- a gate with such a key is one of the graph's
pub opened_by : {M T O : Type 0} (links : List (Link T)) (ops : O) (g : Gate (Region M T) (Opening M T O)) (key : Opening M T O) → key_of g ≡ key → key.links.value.items ≡ links → key.ops.value ≡ ops → IsGateOf links ops g
opened_by {M} {T} {O} links ops g key same ends functions =
    let K : Opening M T O → Type 0 = λ k. (k.links.value.items ≡ links) × (k.ops.value ≡ ops) in
    subst K (sym same) (ends, functions)

-- what holds of the one with this number holds of whatever stands there
pub of_this : {X : Type 0} (P : X → Type 0) (xs : List X) (k : ℕ) (y : X) → slice_get xs k ≡ Some y → IsAmong xs k P → P y
of_this P xs k y at h = let same : h.0 ≡ y = cc in subst P same h.2
