-- Lists side by side, the last of each taken off and put behind again.
use Rattle.std.proofs.Common.{◌≡◌, ℕ, ◌+◌, ◌<◌, ◌≤◌, List, [], ◌∷◌, ◌++◌, length, ap, sym, ◌∙◌, subst, arith}
use Rattle.std.proofs.lemmas.List.{length-append, append_assoc}
use Rattle.std.proofs.lemmas.Slice.Zip.{AllZip-long}
use Rattle.std.specs.List.{AllZip}

zip_off : {A B : Type 0} (P : A → B → Type 0) (xs : List A) (ys : List B) (x : A) (y : B) → AllZip P (xs ++ x ∷ []) (ys ++ y ∷ []) → AllZip P xs ys × P x y
zip_off P [] [] x y h = (tt, h.0)
zip_off P [] (w ∷ []) x y h = absurd h.1
zip_off P [] (w ∷ v ∷ ys) x y h = absurd h.1
zip_off P (w ∷ []) [] x y h = absurd h.1
zip_off P (w ∷ v ∷ xs) [] x y h = absurd h.1
zip_off P (w ∷ xs) (v ∷ ys) x y h = let k = zip_off P xs ys x y h.1 in ((h.0, k.0), k.1)

-- the last two, and those before them
pub last_off : {A B : Type 0} (P : A → B → Type 0) (all xs : List A) (both ys : List B) (x : A) (y : B) → AllZip P all both → all ≡ xs ++ x ∷ [] → both ≡ ys ++ y ∷ [] → AllZip P xs ys × P x y
last_off {A = A} {B = B} P all xs both ys x y h a e =
    let F : List A → Type 0 = λ l. AllZip P l both in
    let G : List B → Type 0 = λ l. AllZip P (xs ++ x ∷ []) l in
    zip_off P xs ys x y (subst G e (subst F a h))

zip_on : {A B : Type 0} (P : A → B → Type 0) (xs : List A) (ys : List B) (x : A) (y : B) → AllZip P xs ys → P x y → AllZip P (xs ++ x ∷ []) (ys ++ y ∷ [])
zip_on P [] [] x y h k = (k, tt)
zip_on P [] (v ∷ ys) x y h k = absurd h
zip_on P (w ∷ xs) [] x y h k = absurd h
zip_on P (w ∷ xs) (v ∷ ys) x y h k = (h.0, zip_on P xs ys x y h.1 k)

-- one more of each
pub last_on : {A B : Type 0} (P : A → B → Type 0) (all xs : List A) (ys : List B) (x : A) (y : B) → all ≡ xs ++ x ∷ [] → AllZip P xs ys → P x y → AllZip P all (ys ++ y ∷ [])
last_on {A = A} P all xs ys x y a h k = let F : List A → Type 0 = λ l. AllZip P l (ys ++ y ∷ []) in subst F (sym a) (zip_on P xs ys x y h k)

-- there is room for one more behind those that came
pub room_left : {A C : Type 0} (all xs : List A) (x : A) (old now : List C) (ended : List C) (Q : A → C → Type 0) (len cap most : ℕ) → all ≡ xs ++ x ∷ [] → length old + length all ≤ most → now ≡ old ++ ended → AllZip Q xs ended → len ≡ length now → cap ≡ most → len < cap
room_left all xs x old now ended Q len cap most a room is h l c =
    let long = ap length a ∙ length-append xs (x ∷ []) in
    let same = AllZip-long Q xs ended h in
    let here = ap length is ∙ length-append old ended in
    omega (arith, long, room, here, same, l, c)

-- one more behind others is one more behind all
pub one_behind : {A : Type 0} (old ended now all : List A) (x : A) → now ≡ old ++ ended → all ≡ now ++ x ∷ [] → all ≡ old ++ (ended ++ x ∷ [])
one_behind old ended now all x is more = more ∙ ap (λ l. l ++ x ∷ []) is ∙ append_assoc old ended (x ∷ [])
