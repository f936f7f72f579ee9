-- Lists of items with the same data are the same.
use Rattle.std.proofs.Common.{◌≡◌, ◌∙◌, ℕ, ◌<◌, List, [], ◌∷◌, length, get_or, refl, sym, ap}
use Rattle.std.proofs.lemmas.List.{get_or_default}
use Rattle.rsx_demo.specs.declared.val.Val.{Val}
use Rattle.rsx_demo.specs.declared.val.Val.TheVariants as is
use Rattle.rsx_demo.specs.Data.{Data}
use Rattle.rsx_demo.specs.Items.{data_of}

pub data_of_one : (xs ys : List Val) → data_of xs ≡ data_of ys → xs ≡ ys
data_of_one [] [] e = refl
data_of_one [] (is.Int z ∷ ys) e = cc
data_of_one [] (is.List d ∷ ys) e = cc
data_of_one (is.Int z ∷ xs) [] e = cc
data_of_one (is.List d ∷ xs) [] e = cc
data_of_one (is.Int z ∷ xs) (is.List d ∷ ys) e = cc
data_of_one (is.List d ∷ xs) (is.Int z ∷ ys) e = cc
data_of_one (is.Int z ∷ xs) (is.Int w ∷ ys) e = let rest : data_of xs ≡ data_of ys = cc in let same = data_of_one xs ys rest in cc
data_of_one (is.List d ∷ xs) (is.List k ∷ ys) e = let rest : data_of xs ≡ data_of ys = cc in let same = data_of_one xs ys rest in cc

-- the lists of equal data
pub items_of_one : (xs ys : List Val) (a b : Data) → data_of xs ≡ a → data_of ys ≡ b → a ≡ b → xs ≡ ys
items_of_one xs ys a b is_a is_b same = data_of_one xs ys (is_a ∙ same ∙ sym is_b)

-- lists that differ at a place differ
pub differ_at : (xs ys : List Val) (i : ℕ) (x y : Val) → i < length xs
    → x ≡ get_or xs i x → y ≡ get_or ys i y → (x ≡ y → ⊥) → xs ≡ ys → ⊥
differ_at xs ys i x y h at_x at_y other same =
    other (at_x ∙ get_or_default xs i x y h ∙ ap (λ zs. get_or zs i y) same ∙ sym at_y)
