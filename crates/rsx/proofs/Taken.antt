-- Inputs, one behind the other, as a loop takes them.
use Rattle.std.proofs.Common.{◌≡◌, List, [], ◌∷◌, ◌++◌, map, Option, Some, None, option_map, option_and_then, refl, sym, ap, ◌∙◌, append_assoc}
use Rattle.std.proofs.lemmas.List.{append-nil}
use Rattle.rsx.specs.Flow.{all_of}

behind : {B : Type 0} (o : Option (List B)) (y : B) (ys : List B) → option_map (λ es. ys ++ es) (option_map (λ es. y ∷ es) o) ≡ option_map (λ es. (ys ++ y ∷ []) ++ es) o
behind None y ys = refl
behind (Some es) y ys = ap Some (sym (append_assoc ys (y ∷ []) es))

pub none_taken : {B : Type 0} (o : Option (List B)) (ys : List B) → ys ≡ [] → o ≡ option_map (λ es. ys ++ es) o
none_taken None ys e = refl
none_taken (Some es) ys e = ap (λ zs. Some (zs ++ es)) (sym e)

pub one_taken : {A B : Type 0} (f : A → Option B) (whole : Option (List B)) (rest rest' : List A) (x : A) (y : B) (ys ys' : List B)
    → whole ≡ option_map (λ es. ys ++ es) (all_of (map f rest)) → rest ≡ x ∷ rest' → f x ≡ Some y → ys' ≡ ys ++ y ∷ []
    → whole ≡ option_map (λ es. ys' ++ es) (all_of (map f rest'))
one_taken f whole rest rest' x y ys ys' so_far there built more =
    so_far
    ∙ ap (λ r. option_map (λ es. ys ++ es) (all_of (map f r))) there
    ∙ ap (λ o. option_map (λ es. ys ++ es) (option_and_then (λ z. option_map (λ zs. z ∷ zs) (all_of (map f rest'))) o)) built
    ∙ behind (all_of (map f rest')) y ys
    ∙ ap (λ zs. option_map (λ es. zs ++ es) (all_of (map f rest'))) (sym more)

pub all_taken : {A B : Type 0} (f : A → Option B) (whole : Option (List B)) (rest : List A) (ys : List B)
    → whole ≡ option_map (λ es. ys ++ es) (all_of (map f rest)) → rest ≡ [] → whole ≡ Some ys
all_taken f whole rest ys so_far over =
    so_far ∙ ap (λ r. option_map (λ es. ys ++ es) (all_of (map f r))) over ∙ ap Some (append-nil ys)
