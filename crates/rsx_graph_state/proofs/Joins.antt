-- How the leaves of an expression join the hubs of a graph.
use Rattle.std.proofs.Common.{◌≡◌, ℕ, zero, suc, List, [], ◌∷◌, ◌++◌, map, slice_get, refl, ap, sym, Some}
use Rattle.rsx_subscriber.specs.Past.{Past}
use Rattle.rsx_graph_state.specs.Answers.{HasJoins}

pub map_last : {A B : Type 0} (f : A → B) (xs : List A) (x : A) → map f (xs ++ x ∷ []) ≡ map f xs ++ f x ∷ []
map_last f [] x = refl
map_last f (y ∷ ys) x = ap (λ l. f y ∷ l) (map_last f ys x)

-- ---- a look at the joins

pub got_map : {A B : Type 0} (f : A → B) (xs : List A) (i : ℕ) (x : A) → slice_get xs i ≡ Some x → slice_get (map f xs) i ≡ Some (f x)
got_map f [] i x e = cc
got_map f (y ∷ ys) zero x e = let same : y ≡ x = cc in ap (λ z. Some (f z)) same
got_map f (y ∷ ys) (suc i) x e = got_map f ys i x e

pub joins_there : {T : Type 0} (ps : List (Past T)) (i : ℕ) (js : List ℕ) → slice_get (map (λ p. p.joins) ps) i ≡ Some js → HasJoins ps i js
joins_there [] i js e = cc
joins_there (p ∷ ps) zero js e = let same : p.joins ≡ js = cc in sym same
joins_there (p ∷ ps) (suc i) js e = joins_there ps i js e
