-- Options, of lists too.
use Rattle.std.proofs.Common.{◌≡◌, List, [], ◌∷◌, ◌++◌, Option, Some, None, option_map, refl, ap, append_assoc}

pub none_from_no_some : {A : Type 0} (o : Option A) → ((a : A) → o ≡ Some a → ⊥) → o ≡ None
none_from_no_some None h = refl
none_from_no_some (Some a) h = absurd (h a refl)

pub nothing_in_front : {A : Type 0} (o : Option (List A)) → option_map (λ xs. [] ++ xs) o ≡ o
nothing_in_front None = refl
nothing_in_front (Some xs) = refl

-- one more in front, or behind what is in front
pub one_in_front : {A : Type 0} (xs : List A) (x : A) (o : Option (List A)) → option_map (λ ys. (xs ++ x ∷ []) ++ ys) o ≡ option_map (λ ys. xs ++ ys) (option_map (λ ys. x ∷ ys) o)
one_in_front xs x None = refl
one_in_front xs x (Some ys) = ap (λ l. Some l) (append_assoc xs (x ∷ []) ys)
